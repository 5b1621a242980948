-- No more ranks than states.
use Rattle.std.proofs.Common.{◌≡◌, ℕ, suc, ◌≤◌, Bool, IsTrue, List, [], ◌∷◌, Some, length, slice_get, refl, arith}
use Rattle.task_system.specs.System.{State}
use Rattle.space_api.specs.View.{View}
use Rattle.space_api.specs.Owned.{Amid}
use Rattle.goal_ranks.proofs.Counting.{without, without_lt, without_has}
use Rattle.goal_ranks.proofs.Ending.{listed_amid}
use Rattle.goal_ranks.specs.declared.parts.Ranked.{Ranked}
use Rattle.goal_ranks.specs.declared.search.GoalRanks.{GoalRanks}
use Rattle.goal_ranks.specs.Ranks.{IsGoalRanks, ranks_of, items_of}
use Rattle.goal_ranks.proofs.Adding.{is_false}

-- where each of some sets has one of the items and no two have the same one, there are no more sets than items
pub few : {A R : Type 0} (has : R → A → Bool) (sets : List R) (items : List A)
    → ((i : ℕ) (r : R) → slice_get sets i ≡ Some r → (x : A) × Amid items x × IsTrue (has r x))
    → ((i j : ℕ) (r q : R) (x : A) → slice_get sets i ≡ Some r → slice_get sets j ≡ Some q → IsTrue (has r x) → IsTrue (has q x) → i ≡ j)
    → length sets ≤ length items
few has [] items member once = omega arith
few has (r ∷ sets) items member once =
    let m = member 0 r refl in
    let less = without_lt (has r) items m.0 m.1 m.2 in
    let rest = few has sets (without (has r) items)
    (λ i q at. let x = member (suc i) q at in (
      x.0,
      without_has (has r) items x.0 x.1
          (is_false (has r x.0) (λ here. omega (arith, once 0 (suc i) r q x.0 refl at here x.2))),
      x.2,
    ))
    (λ i j q p x at to h k. omega (arith, once (suc i) (suc j) q p x at to h k)) in
    omega (arith, less, rest)

pub few_ranks : {Set : Type 0} (v : View Set) (g : GoalRanks Set) → IsGoalRanks v g → ranks_of g ≤ length v.system.states
few_ranks {Set} v g z = few (λ (r : Ranked Set) (s : State). v.has r.set s) (items_of g) v.system.states
    (λ i r at. let m = z.left.member i r at in (m.0, listed_amid v.system.states m.0 m.1, m.2))
    (λ i j r q s at to h k. (z.right.once i j r.cost q.cost s (r, at, refl, h) (q, to, refl, k)).0)
