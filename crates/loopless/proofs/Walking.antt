-- How a turn ends the list, and turns one after the other.
use Rattle.std.proofs.Common.{ℕ, ◌-◌, ◌<◌, ◌≤◌, ◌^◌, ◌⊎◌, inl, inr, IsTrue, Option, Some, None, arith}
use Rattle.std.specs.List.{AllByRecursion}
use Rattle.symk_task.specs.declared.parts.Mode.TheVariants.{Loopless}
use Rattle.task_system.specs.System.{System}
use Rattle.space_api.specs.View.{View}
use Rattle.lazy_plans.specs.Law.{MayStop, NoneLeft, top}
use Rattle.lazy_plans.specs.declared.stop.Stop.TheVariants.{CostRange}
use Rattle.cost_search.specs.Directed.{Backward}
use Rattle.lazy_plans.specs.Queue.{Right, Pending}
use Rattle.lazy_plans.proofs.Splits.{prefix_refl}
use Rattle.lazy_plans.proofs.Traces.{plan_in}
use Rattle.lazy_plans.proofs.Turns as turns
use Rattle.prefix_tree.specs.StateGraph.{states_of}
use Rattle.loopless.specs.declared.front.Front.{Front}
use Rattle.prefix_tree.specs.Tree.{path_at}
use Rattle.prefix_tree.specs.declared.entry.Entry.{Entry}
use Rattle.prefix_tree.proofs.Entries.{first_is, first_in}
use Rattle.loopless.specs.Children.{IsEntry}
use Rattle.loopless.specs.Front.{waiting, prefixes_of, IsLooplessFirst}
use Rattle.loopless.specs.Standing.{IsLooplessReady}
use Rattle.loopless.specs.Turned.{IsPast, IsOut}
use Rattle.loopless.proofs.Turning.{bounds_all}
use Rattle.loopless.proofs.Readying.{good_at}

less_or : (a b : ℕ) → (a < b) ⊎ (b ≤ a)
less_or a b = grind arith

pub cheap : (most : Option ℕ) (e : Entry) → ¬ IsPast most e → ¬ IsOut most e → IsTrue e.at_goal → e.cost ≤ e.bound.0 → e.cost ≤ top most
cheap None e past out goal le = elim (less_or (2 ^ 64 - 1) e.cost) [ inl dear ↦ absurd (out (goal, dear)) | inr fits ↦ fits ]
cheap (Some m) e past out goal le = elim (less_or m e.bound.0) [ inl dear ↦ absurd (past dear) | inr fits ↦ omega (arith, fits, le) ]

pub past_turn : (y : System) (most : Option ℕ) (f : Front) (e : Entry) → IsPast most e → AllByRecursion (IsEntry y f.tree.items) (waiting f) →
    AllByRecursion (λ (k : Entry). e.bound.0 ≤ k.bound.0) (waiting f) → NoneLeft y most (Pending y Loopless (prefixes_of f))
past_turn y None f e past each least = absurd past
past_turn y (Some m) f e past each least =
    turns.past y Loopless m e.bound.0 (prefixes_of f) (bounds_all y f.tree.items e.bound.0 (waiting f) each least) past

pub out_turn : {Set : Type 0} (v : View Set) (b : Backward Set) (f : Front) (most : Option ℕ) (e : Entry) → IsOut most e → IsLooplessReady v b f →
    Right v.system Loopless most (prefixes_of f) → IsLooplessFirst f e → AllByRecursion (λ (k : Entry). e.bound.0 ≤ k.bound.0) (waiting f) →
    MayStop v.system most (Pending v.system Loopless (prefixes_of f)) CostRange
out_turn v b f (Some m) e out z right first least = absurd out
out_turn v b f None e out z right first least =
    let nodes = f.tree.items in
    let path = path_at nodes e.node in
    let entry : IsEntry v.system nodes e = first_is (IsEntry v.system nodes) (waiting f) e first.some first.at z.each in
    let dear : top None < e.bound.0 = omega (arith, entry.least, out.1) in
    let good = good_at v.system (states_of f.graph) nodes e z.tree entry in
    let bounds = bounds_all v.system nodes e.bound.0 (waiting f) z.each least in
    let plan = plan_in v.system Loopless path good.allowed (entry.plan.0 out.0) in
    turns.out_of_range v.system Loopless None path (prefixes_of f) right (first_in nodes (waiting f) e first.some first.at)
    e.bound.0 bounds dear path plan (prefix_refl path)
