-- Where each plan that is left is too dear, and whether one goes on from a prefix.
use Rattle.std.proofs.Common.{◌≡◌, ℕ, ◌+◌, ◌<◌, ◌≤◌, ◌^◌, ◌↔◌, inl, inr, Bool, IsFalse, IsSome, List, [], ◌∷◌, length, Option, Some, None, refl, sym, ◌∙◌, subst, arith}
use Rattle.std.specs.Bool.{Decides}
use Rattle.std.specs.List.{AllByRecursion}
use Rattle.task_system.specs.System.{State, System, RunsInSystem}
use Rattle.space_api.specs.View.{View, Valid, Has}
use Rattle.space_api.specs.Frames.{Kept, Gives, Forgot, Stays}
use Rattle.space_api.proofs.Trading.{valid_clash}
use Rattle.run_graph.specs.Reached.{Useful, ReachedInside}
use Rattle.run_graph.specs.declared.Side.TheVariants.{Back}
use Rattle.space_api.specs.States.{IsReached}
use Rattle.lazy_plans.specs.Law.{top}
use Rattle.cost_to_go.specs.declared.search.CostToGo.{CostToGo}
use Rattle.lazy_plans.specs.Queue.{Bounds}
use Rattle.lazy_plans.proofs.Traces.{one_end}
use Rattle.prefix_tree.specs.Entries.{prefixes}
use Rattle.prefix_tree.specs.declared.tree.Node.{Node}
use Rattle.prefix_tree.specs.declared.entry.Entry.{Entry}
use Rattle.prefix_plans.specs.Left.{LeadsOn, bound_at}
use Rattle.prefix_plans.specs.EndChildren.{IsEndEntry}
use Rattle.prefix_plans.specs.Leading.{TellsLeading, GoesOnFrom, IsDear}
use Rattle.cost_layers.proofs.Useful.{run_inside}
use Rattle.prefix_plans.proofs.Ranking.{inside_run}

-- whether a plan goes on from the prefix that ends in s
pub decides_on : {Set : Type 0} (v : View Set) (a : Set) (e : List ℕ) (s : State) (b : Bool) → TellsLeading v a
    → RunsInSystem v.system v.system.initial e s → b ≡ v.has a s → Decides b (GoesOnFrom v.system e)
decides_on v a e s b tells run is =
    let t = tells s (e, run) in (
      (λ on. (s, run, t.0 (sym is ∙ on))),
      (λ h. is ∙ t.1 (subst (λ (x : State). LeadsOn v.system x) (one_end v.system e v.system.initial h.0 s h.1 run) h.2)),
    )

-- the states that lead to the goal inside a set that has all useful states
pub tells_leading : {Set : Type 0} (u v : View Set) (within leading : Set) → v.system ≡ u.system
    → ((s : State) → Useful u.system s → Has u within s) → Gives u v (ReachedInside Back u.system (Has u within))
    leading → TellsLeading v leading
tells_leading u v within leading same wide g s r =
    let at : IsReached u.system s = subst (λ (y : System). IsReached y s) same r in
    subst (λ (y : System). Has v leading s ↔ LeadsOn y s) (sym same) (
      (λ h. let w = (g.means s).0 h in (w.0, w.1, inside_run u.system (Has u within) w.0 s w.1 w.2, w.3)),
      (λ l. (g.means s).1 (l.0, l.1, run_inside u.system (Has u within) wide l.0 s l.1 at l.2 l.3, l.3)),
    )

-- a set was made and given back
pub made_forgot : {Set : Type 0} (u v w : View Set) (P : State → Type 0) (a : Set) → Kept u v → Gives u v P a → Forgot v w a → Stays u w
made_forgot {Set} u v w P a k g f = record {
  kept = record {
    system = f.system ∙ k.system;
    valid = stays;
    same = λ b h s. f.same b (stays b h) s ∙ k.same b h s;
  };
  only = λ b h. elim (g.only b (f.only b h)) [
    | inl old ↦ old
    | inr e ↦ absurd (valid_clash h (subst (λ (x : Set). IsFalse (w.valid x)) (sym e) f.gone))
  ];
}
  where
    stays : (b : Set) → Valid u b → Valid w b
    stays b h = f.valid b (k.valid b h) (λ e. valid_clash h (subst (λ (x : Set). IsFalse (u.valid x)) (sym e) g.fresh))

pub bounds_dear : (y : System) (nodes : List Node) (es : List Entry) → AllByRecursion (IsDear y nodes) es
    → AllByRecursion (λ x. Bounds y x (2 ^ 64)) (prefixes nodes es)
bounds_dear y nodes [] a = tt
bounds_dear y nodes (e ∷ es) a = (a.0.bounds, bounds_dear y nodes es a.1)

pub dear_each : {Set : Type 0} (v : View Set) (f : CostToGo Set) (nodes : List Node) (es : List Entry)
    → AllByRecursion (IsEndEntry v f nodes) es → AllByRecursion (λ (k : Entry). top None < k.bound.0) es
    → AllByRecursion (IsDear v.system nodes) es
dear_each v f nodes [] a b = tt
dear_each v f nodes (k ∷ es) a b = (
  record { inside = a.0.inside; bounds = λ p plan on. let le = a.0.bounds p plan on in omega (arith, le, b.0) },
  dear_each v f nodes es a.1 b.1,
)

pub inside_each : {Set : Type 0} (v : View Set) (f : CostToGo Set) (nodes : List Node) (es : List Entry)
    → AllByRecursion (IsEndEntry v f nodes) es → AllByRecursion (λ (k : Entry). k.node < length nodes) es
inside_each v f nodes [] a = tt
inside_each v f nodes (k ∷ es) a = (a.0.inside, inside_each v f nodes es a.1)

-- no plan of any entry costs m or less
pub bounds_past : {Set : Type 0} (v : View Set) (f : CostToGo Set) (nodes : List Node) (m : ℕ) (es : List Entry)
    → AllByRecursion (IsEndEntry v f nodes) es → AllByRecursion (λ (k : Entry). m < k.bound.0) es
    → AllByRecursion (λ x. Bounds v.system x (m + 1)) (prefixes nodes es)
bounds_past v f nodes m [] a b = tt
bounds_past v f nodes m (k ∷ es) a b = ((λ p plan on. let le = a.0.bounds p plan on in omega (arith, le, b.0)), bounds_past v f nodes m es a.1 b.1)

-- what is dearer than the first entry's bound
pub all_past : (n : ℕ) (e : Entry) (es : List Entry) → n < e.bound.0
    → AllByRecursion (λ (k : Entry). e.bound.0 ≤ k.bound.0) es → AllByRecursion (λ (k : Entry). n < k.bound.0) es
all_past n e [] lt a = tt
all_past n e (k ∷ es) lt a = (omega (arith, lt, a.0), all_past n e es lt a.1)

-- a bound in range that is all that is known is so by what waits
pub something_waits : (o : Option ℕ) (g b m : ℕ) → b ≤ m → m < 2 ^ 64 → ¬ (b < bound_at o g) → IsSome o
something_waits None g b m cheap range all = absurd (all (omega (arith, cheap, range)))
something_waits (Some n) g b m cheap range all = refl
