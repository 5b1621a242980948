-- Entries while the tree grows, and the children of one, operator after operator.
use Rattle.std.proofs.Common.{◌≡◌, ℕ, ◌+◌, ◌-◌, ◌*◌, ◌<◌, ◌≤◌, ◌^◌, cond, Bool, true, false, IsTrue, List, [], ◌∷◌, ◌++◌, length, refl, sym, ◌∙◌, ap, subst, arith, eq-eqb}
use Rattle.std.specs.Prelude.{nat_lt, ◌||◌}
use Rattle.std.specs.Bool.{Decides}
use Rattle.std.specs.List.{AllByRecursion}
use Rattle.std.proofs.lemmas.Bool.Decides.{nat_tests}
use Rattle.std.proofs.lemmas.List.{length-append}
use Rattle.symk_task.specs.declared.parts.Mode.TheVariants.{TopK}
use Rattle.task_system.specs.System.{State, RunsInSystem, IsSystemPlan, cost_in_system}
use Rattle.space_api.specs.View.{View}
use Rattle.cost_to_go.specs.Standing.{next_key_of, to_go_ranks}
use Rattle.cost_to_go.specs.declared.search.CostToGo.{CostToGo}
use Rattle.lazy_plans.specs.Queue.{prefix, Bounds}
use Rattle.lazy_plans.proofs.Splits.{cost_join}
use Rattle.lazy_plans.proofs.Traces.{bounds_by, plan_by, runs_join, one_end}
use Rattle.prefix_tree.specs.StateGraph.{numbered_state}
use Rattle.prefix_tree.specs.Tree.{IsTree, GrowsTree, path_at}
use Rattle.prefix_tree.specs.declared.tree.Node.{Node}
use Rattle.prefix_tree.specs.declared.entry.Entry.{Entry}
use Rattle.prefix_tree.proofs.Paths.{path_last, grows_more}
use Rattle.prefix_plans.specs.Left.{known_to_go, bound_at, PrefixEndsAtLeast, IsRanked, IsKnown}
use Rattle.prefix_plans.specs.Reach.{IsLongerEnd}
use Rattle.prefix_plans.specs.EndChildren.{EndsRanked, IsEndEntry, TellsRank, IsUpToDate, outdated}
use Rattle.prefix_plans.specs.declared.left.Left.{Left}
use Rattle.prefix_plans.specs.declared.reach.Reached.{Reached}

not_less : (a b : ℕ) → b ≤ a → nat_lt a b ≡ false
not_less a b le = grind (arith, nat_tests)

up_to_date : (t : Bool) (r many a low : ℕ) → (t ≡ false → (many ≤ r) × (low ≤ a)) → ◌≡◌ {A = ℕ} (cond t 0 (cond (nat_lt r many || nat_lt a low) 1 0)) 0
up_to_date true r many a low h = refl
up_to_date false r many a low h = rw (not_less r many (h refl).0, not_less a low (h refl).1) refl

-- an entry of a prefix that ends in s, of which this is known
module _ {Set : Type 0} (v : View Set) (f : CostToGo Set) (nodes : List Node) (k : Entry) (s : State)
    (run : RunsInSystem v.system v.system.initial (path_at nodes k.node) s) (left : Left)
    (known : IsKnown v f k.cost s left)
    (cost : k.cost ≡ cost_in_system v.system (path_at nodes k.node)) (bound : k.bound.0 ≡ k.cost + left.cost)
    (ring : k.ring.0 ≡ left.ring) (settled : k.settled ≡ left.ranked) where
  bounds_new : Bounds v.system (path_at nodes k.node) k.bound.0
  bounds_new = subst (Bounds v.system (path_at nodes k.node)) (sym (bound ∙ ap (λ (n : ℕ). n + left.cost) cost))
      (bounds_by v.system (path_at nodes k.node) s run left.cost known.least)

  rest_is : k.bound.0 - k.cost ≡ left.cost
  rest_is = omega (arith, bound)

  ranked_new : IsTrue k.settled → EndsRanked v f (path_at nodes k.node) (k.bound.0 - k.cost) k.ring.0
  ranked_new on = (
    s,
    run,
    subst (λ (c : ℕ). IsRanked v f c k.ring.0 s) (sym rest_is)
        (subst (λ (i : ℕ). IsRanked v f left.cost i s) (sym ring) (known.ranked (sym settled ∙ on))),
  )

  tells_new : TellsRank v f nodes k
  tells_new c i e =
      let same = one_end v.system (path_at nodes k.node) v.system.initial e.0 s e.1 run in
      let t = known.told c i (subst (λ (x : State). IsRanked v f c i x) same e.2) in
      (omega (arith, bound, t.1), ring ∙ t.2)

  looked_new : (c i : ℕ) → i < k.ring.0 → ¬ EndsRanked v f (path_at nodes k.node) c i
  looked_new c i lt e = let t = tells_new c i e in apart k.ring.0 i lt t.1
    where
      apart : (r i : ℕ) → i < r → r ≡ i → ⊥
      apart r i lt e = omega (arith, lt, e)

  dated_new : outdated (known_to_go f) k ≡ 0
  dated_new = up_to_date k.settled k.ring.0 (to_go_ranks f) k.bound.0 (bound_at (next_key_of f) k.cost)
      (λ off. let n = known.newest (sym settled ∙ off) in (omega (arith, n.0, ring), omega (arith, n.1, bound)))

  pub entry_new : k.node < length nodes → k.cost ≤ (2 ^ 64 - 1) * k.node → k.ring.0 < 2 ^ 64 → k.bound.0 < 2 ^ 128
      → Decides k.at_goal (IsSystemPlan v.system (path_at nodes k.node)) → IsUpToDate v f nodes k
  entry_new inside roomy small range plan = (
    record {
      inside = inside;
      cost = cost;
      roomy = roomy;
      least = omega (arith, bound);
      span = omega (arith, bound, known.small);
      ring = small;
      seen = omega (arith, ring, known.seen);
      range = range;
      bounds = bounds_new;
      plan = plan;
      ranked = ranked_new;
      looked = looked_new;
    },
    tells_new,
    dated_new,
  )

-- an entry stands where its place has the same prefix
module _ {Set : Type 0} (v : View Set) (f : CostToGo Set) (a c : List Node) (longer : length a ≤ length c)
    (same : (i : ℕ) → i < length a → path_at c i ≡ path_at a i) where
  pub entry_like : (e : Entry) → IsEndEntry v f a e → IsEndEntry v f c e
  entry_like e z =
      let path = sym (same e.node z.inside) in
      record {
        inside = omega (arith, z.inside, longer);
        cost = subst (λ (p : List ℕ). e.cost ≡ cost_in_system v.system p) path z.cost;
        roomy = z.roomy;
        least = z.least;
        span = z.span;
        ring = z.ring;
        seen = z.seen;
        range = z.range;
        bounds = subst (λ (p : List ℕ). Bounds v.system p e.bound.0) path z.bounds;
        plan = subst (λ (p : List ℕ). Decides e.at_goal (IsSystemPlan v.system p)) path z.plan;
        ranked = λ on. subst (λ (p : List ℕ). EndsRanked v f p (e.bound.0 - e.cost) e.ring.0) path (z.ranked on);
        looked = λ c i lt r. z.looked c i lt (subst (λ (p : List ℕ). EndsRanked v f p c i) (same e.node z.inside) r);
      }

  new_like : (e : Entry) → IsUpToDate v f a e → IsUpToDate v f c e
  new_like e z = (
    entry_like e z.0,
    (λ d i r. z.1 d i (subst (λ (p : List ℕ). EndsRanked v f p d i) (same e.node z.0.inside) r)),
    z.2,
  )

  pub each_like : (es : List Entry) → AllByRecursion (IsEndEntry v f a) es → AllByRecursion (IsEndEntry v f c) es
  each_like [] z = tt
  each_like (e ∷ es) z = (entry_like e z.0, each_like es z.1)

  pub each_new_like : (es : List Entry) → AllByRecursion (IsUpToDate v f a) es → AllByRecursion (IsUpToDate v f c) es
  each_new_like [] z = tt
  each_new_like (e ∷ es) z = (new_like e z.0, each_new_like es z.1)

-- one prefix more, at the end of the tree
module _ {Set : Type 0} (v : View Set) (f : CostToGo Set) (ss : List State) (nodes : List Node) (n : Node)
    (z : IsTree v.system TopK ss nodes) (behind : n.parent < length nodes) (r : Reached)
    (longer : IsLongerEnd v f (path_at nodes n.parent ++ n.op ∷ []) r) where
  pub grows_push : n.state < length ss → RunsInSystem v.system v.system.initial (path_at nodes n.parent ++ n.op ∷ [])
      (numbered_state ss n.state) → GrowsTree v.system TopK ss nodes (nodes ++ n ∷ [])
  grows_push within run = grows_more v.system TopK ss nodes n z behind longer.good within run

  module _ (e : Entry) (old : IsEndEntry v f nodes e) (at : e.node ≡ n.parent) where
    same_path : path_at nodes e.node ≡ path_at nodes n.parent
    same_path = ap (path_at nodes) at

    cost_push : r.cost ≡ e.cost + v.system.cost n.op
    cost_push = omega (arith, longer.cost, old.cost, ap (cost_in_system v.system) same_path, cost_join v.system (path_at nodes n.parent) (n.op ∷ []))

    pub room_push : v.system.cost n.op < 2 ^ 64 → r.cost ≤ (2 ^ 64 - 1) * length nodes
    room_push dear = omega (arith, cost_push, old.roomy, at, behind, dear)

    -- the entry of the new prefix
    pub entry_push : (k : Entry) → k.node ≡ length nodes → k.cost ≡ r.cost → k.bound.0 ≡ k.cost + r.left.cost
        → k.ring.0 ≡ r.left.ring → k.settled ≡ r.left.ranked → k.at_goal ≡ r.at_goal → k.ring.0 < 2 ^ 64
        → k.bound.0 < 2 ^ 128 → v.system.cost n.op < 2 ^ 64
        → IsUpToDate v f (nodes ++ n ∷ []) k × (path_at (nodes ++ n ∷ []) k.node ≡ path_at nodes n.parent ++ n.op ∷ [])
    entry_push k place cost bound ring settled goal small range dear =
        let path : path_at (nodes ++ n ∷ []) k.node ≡ path_at nodes n.parent ++ n.op ∷ [] = path_last nodes n k.node z.some place in
        let total : k.cost ≡ cost_in_system v.system (path_at nodes n.parent ++ n.op ∷ []) = cost ∙ longer.cost in
        let known : IsKnown v f k.cost longer.good.end r.left = subst (λ (g : ℕ). IsKnown v f g longer.good.end r.left) (sym cost) longer.left in
        let run = subst (λ (q : List ℕ). RunsInSystem v.system v.system.initial q longer.good.end) (sym path) longer.good.runs in
        let plan = plan_by v.system (path_at nodes n.parent ++ n.op ∷ []) longer.good.end longer.good.runs r.at_goal longer.goal in
        let room = room_push dear in (
          entry_new v f (nodes ++ n ∷ []) k longer.good.end run r.left known
              (subst (λ (q : List ℕ). k.cost ≡ cost_in_system v.system q) (sym path) total) bound ring settled
              (omega (arith, place, length-append nodes (n ∷ [])))
              (omega (arith, cost, room, place))
              small range
              (subst (λ (q : List ℕ). Decides k.at_goal (IsSystemPlan v.system q)) (sym path)
              (subst (λ (x : Bool). Decides x (IsSystemPlan v.system (path_at nodes n.parent ++ n.op ∷ [])))
              (sym goal) plan)),
          path,
        )

prefix_join : (e q : List ℕ) → prefix e (e ++ q) ≡ true
prefix_join [] q = refl
prefix_join (x ∷ e) q = rw (eq-eqb x x refl, prefix_join e q) refl

prefix_front : (e q r : List ℕ) → prefix e ((e ++ q) ++ r) ≡ true
prefix_front [] q r = refl
prefix_front (x ∷ e) q r = rw (eq-eqb x x refl, prefix_front e q r) refl

-- what the bound of an entry leaves after what its prefix costs, and after what a longer one does
module _ {Set : Type 0} (v : View Set) (f : CostToGo Set) (nodes : List Node) (e : Entry) (z : IsEndEntry v f nodes e) where
  pub ends_after : (low : ℕ) → low ≤ e.bound.0 - e.cost → PrefixEndsAtLeast v.system (path_at nodes e.node) low
  ends_after low le s run q t more goal =
      let p = path_at nodes e.node in
      let b = z.bounds (p ++ q) (t, runs_join v.system p q v.system.initial s t run more, goal) (prefix_join p q) in
      omega (arith, b, z.cost, cost_join v.system p q, le)

  pub ends_longer : (op low : ℕ) → low ≤ e.bound.0 - (e.cost + v.system.cost op) → PrefixEndsAtLeast v.system (path_at nodes e.node ++ op ∷ []) low
  ends_longer op low le s run q t more goal =
      let p = path_at nodes e.node in
      let b = z.bounds ((p ++ op ∷ []) ++ q) (t, runs_join v.system (p ++ op ∷ []) q v.system.initial s t run more, goal) (prefix_front p (op ∷ []) q) in
      omega (arith, b, z.cost, cost_join v.system (p ++ op ∷ []) q, cost_join v.system p (op ∷ []), le)
