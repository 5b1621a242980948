-- Entries while the tree grows, and the children of one, operator after operator.
use Rattle.std.proofs.Common.{◌≡◌, ℕ, ◌+◌, ◌-◌, ◌<◌, ◌≤◌, ◌^◌, inl, inr, Bool, List, [], ◌∷◌, ◌++◌, length, sym, subst, arith}
use Rattle.std.specs.Bool.{Decides}
use Rattle.std.specs.List.{AllByRecursion}
use Rattle.std.proofs.lemmas.List.{length-append}
use Rattle.task_system.specs.System.{State, System, IsSystemPlan, cost_in_system}
use Rattle.lazy_plans.specs.Queue.{Bounds, ChildrenBelow}
use Rattle.lazy_plans.proofs.Growing as growing
use Rattle.lazy_plans.proofs.Splits.{cost_join, prefix_join, prefix_front}
use Rattle.lazy_plans.proofs.Traces.{bounds_by, plan_by, runs_join}
use Rattle.prefix_tree.specs.StateGraph.{IsGraphMove}
use Rattle.prefix_tree.specs.Tree.{IsTree, GrowsTree, path_at, end_at}
use Rattle.prefix_tree.specs.declared.state_graph.Move.{Move}
use Rattle.prefix_tree.specs.declared.tree.Node.{Node}
use Rattle.prefix_tree.specs.declared.entry.Entry.{Entry}
use Rattle.prefix_tree.proofs.Entries.{prefixes_like, prefixes_last}
use Rattle.prefix_tree.proofs.Going.{next_run}
use Rattle.prefix_tree.proofs.Paths.{path_last, grows_more}
use Rattle.prefix_tree.specs.Entries.{prefixes}
use Rattle.symk_task.specs.declared.parts.Mode.TheVariants.{Loopless}
use Rattle.loopless.specs.Left.{EndsAtLeast}
use Rattle.loopless.specs.Reach.{IsLonger}
use Rattle.loopless.specs.Children.{IsEntry, AddsLooplessChild, AreChildren}
use Rattle.loopless.specs.declared.reach.Reached.{Reached}

-- an entry stands where its place has the same prefix
pub entry_like : (y : System) (a c : List Node) (e : Entry) → length a ≤ length c
    → ((i : ℕ) → i < length a → path_at c i ≡ path_at a i) → IsEntry y a e → IsEntry y c e
entry_like y a c e longer same z =
    let path = sym (same e.node z.inside) in
    record {
      inside = omega (arith, z.inside, longer);
      cost = subst (λ (p : List ℕ). e.cost ≡ cost_in_system y p) path z.cost;
      roomy = z.roomy;
      least = z.least;
      span = z.span;
      bounds = subst (λ (p : List ℕ). Bounds y p e.bound.0) path z.bounds;
      plan = subst (λ (p : List ℕ). Decides e.at_goal (IsSystemPlan y p)) path z.plan;
    }

pub each_like : (y : System) (a c : List Node) (es : List Entry) → length a ≤ length c
    → ((i : ℕ) → i < length a → path_at c i ≡ path_at a i) → AllByRecursion (IsEntry y a) es
    → AllByRecursion (IsEntry y c) es
each_like y a c [] longer same z = tt
each_like y a c (e ∷ es) longer same z = (entry_like y a c e longer same z.0, each_like y a c es longer same z.1)

-- one prefix more, at the end of the tree: that of e, longer by the move m
module _ (y : System) (ss : List State) (nodes : List Node) (e : Entry) (m : Move) (z : IsTree y Loopless ss nodes) (old : IsEntry y nodes e)
    (step : IsGraphMove y ss (end_at ss nodes e.node) m) (r : Reached) (longer : IsLonger y (path_at nodes e.node ++ m.op ∷ []) r) where
  abbrev path : List ℕ
  path = path_at nodes e.node ++ m.op ∷ []

  abbrev more : List Node
  more = nodes ++ record { parent = e.node; op = m.op; state = m.to } ∷ []

  pub grows_push : GrowsTree y Loopless ss nodes more
  grows_push =
      let run = next_run y Loopless ss nodes e.node z old.inside m step in
      grows_more y Loopless ss nodes (record { parent = e.node; op = m.op; state = m.to }) z old.inside longer.good step.within run

  -- the entry of the new prefix
  pub entry_push : (k : Entry) → k.node ≡ length nodes → k.cost ≡ e.cost + y.cost m.op → k.bound.0 ≡ k.cost + r.left.cost →
      k.at_goal ≡ r.at_goal → y.cost m.op < 2 ^ 64 → IsEntry y more k × (path_at more k.node ≡ path)
  entry_push k place cost bound goal small =
      let n : Node = record { parent = e.node; op = m.op; state = m.to } in
      let is : path_at more k.node ≡ path = path_last nodes n k.node z.some place in
      let total : k.cost ≡ cost_in_system y path = omega (arith, cost, old.cost, cost_join y (path_at nodes e.node) (m.op ∷ [])) in
      let low = bounds_by y path longer.good.end longer.good.runs r.left.cost longer.left in
      let b : k.bound.0 ≡ cost_in_system y path + r.left.cost = omega (arith, bound, total) in
      let plan = plan_by y path longer.good.end longer.good.runs r.at_goal longer.goal in (
        record {
          inside = omega (arith, place, length-append nodes (n ∷ []));
          cost = subst (λ (q : List ℕ). k.cost ≡ cost_in_system y q) (sym is) total;
          roomy = omega (arith, cost, old.roomy, old.inside, place, small);
          least = omega (arith, bound);
          span = omega (arith, bound, longer.small);
          bounds = subst (λ (q : List ℕ). Bounds y q k.bound.0) (sym is) (subst (Bounds y path) (sym b) low);
          plan = subst (λ (q : List ℕ). Decides k.at_goal (IsSystemPlan y q)) (sym is) (subst (λ (x : Bool). Decides x (IsSystemPlan y path)) (sym goal) plan);
        },
        is,
      )

-- what the bound of an entry leaves after what its prefix costs, and after what a longer one does
pub ends_after : (y : System) (nodes : List Node) (e : Entry) (low : ℕ) → IsEntry y nodes e → low ≤ e.bound.0 - e.cost
    → EndsAtLeast y (path_at nodes e.node) low
ends_after y nodes e low z le s run q t more goal =
    let p = path_at nodes e.node in
    let b = z.bounds (p ++ q) (t, runs_join y p q y.initial s t run more, goal) (prefix_join p q) in
    omega (arith, b, z.cost, cost_join y p q, le)

pub ends_longer : (y : System) (nodes : List Node) (e : Entry) (op low : ℕ) → IsEntry y nodes e
    → low ≤ e.bound.0 - (e.cost + y.cost op) → EndsAtLeast y (path_at nodes e.node ++ op ∷ []) low
ends_longer y nodes e op low z le s run q t more goal =
    let p = path_at nodes e.node in
    let b = z.bounds ((p ++ op ∷ []) ++ q) (t, runs_join y (p ++ op ∷ []) q y.initial s t run more, goal) (prefix_front p (op ∷ []) q) in
    omega (arith, b, z.cost, cost_join y (p ++ op ∷ []) q, cost_join y p (op ∷ []), le)

each_last : {X : Type 0} (P : X → Type 0) (xs : List X) (x : X) → AllByRecursion P xs → P x → AllByRecursion P (xs ++ x ∷ [])
each_last P [] x a h = (h, tt)
each_last P (z ∷ xs) x a h = (a.0, each_last P xs x a.1 h)

pub children_none : (y : System) (nodes : List Node) (e : List ℕ) → AreChildren y nodes e 0 []
children_none y nodes e = record { each = tt; longer = tt; few = omega arith; counted = growing.children_none y Loopless e }

pub children_like : (y : System) (a c : List Node) (e : List ℕ) (n : ℕ) (kids : List Entry) → length a ≤ length c
    → ((i : ℕ) → i < length a → path_at c i ≡ path_at a i) → AreChildren y a e n kids → AreChildren y c e n kids
children_like y a c e n kids longer same g =
    let back = sym (prefixes_like (IsEntry y a) a c kids (λ k z. z.inside) same g.each) in
    record {
      each = each_like y a c kids longer same g.each;
      longer = subst (AllByRecursion (λ k. length k ≡ length e + 1)) back g.longer;
      few = g.few;
      counted = subst (ChildrenBelow y Loopless e n) back g.counted;
    }

pub children_next : (y : System) (nodes : List Node) (e : List ℕ) (n : ℕ) (kids new : List Entry)
    → AreChildren y nodes e n kids → AddsLooplessChild y nodes e n kids new → AreChildren y nodes e (n + 1) new
children_next y nodes e n kids new g (inl (same, lost)) = rw same (record {
  each = g.each;
  longer = g.longer;
  few = omega (arith, g.few);
  counted = growing.children_skip y Loopless e n (prefixes nodes kids) g.counted lost;
})
children_next y nodes e n kids new g (inr (k, pushed, stands, path)) =
    let long : length (e ++ n ∷ []) ≡ length e + 1 = length-append e (n ∷ []) in
    rw pushed (record {
      each = each_last (IsEntry y nodes) kids k g.each stands;
      longer = rw (prefixes_last nodes kids k, path) (each_last (λ (z : List ℕ). length z ≡ length e + 1) (prefixes nodes kids) (e ++ n ∷ []) g.longer long);
      few = omega (arith, g.few, length-append kids (k ∷ []));
      counted = rw (prefixes_last nodes kids k, path) (growing.children_more y Loopless e n (prefixes nodes kids) g.counted);
    })
