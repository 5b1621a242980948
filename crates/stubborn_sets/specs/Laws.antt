-- The laws of stubborn sets.
use Rattle.std.specs.Prelude.{◌≡◌, ℕ, Bool, IsTrue, List, [], ◌∷◌, ◌++◌}
use Rattle.task_system.specs.System.{State, System, Listed, RunsInSystem}
use Rattle.space_api.specs.Listing.{ListsReached}
use Rattle.stubborn_sets.specs.Commuting.{Commute}
use Rattle.stubborn_sets.specs.Stubborn.{IsApplicable, FirstOf, Stubborn, Rearranges, BeginsIn, StepsInside, StepsChosen}

-- neighbours that commute, where the second applies at once too
abbrev pub NeighboursMayBeExchanged : Type 0
NeighboursMayBeExchanged = (y : System) (a b : ℕ) (before later : List ℕ) (s m t : State)
    → ListsReached y → Listed y.states s → Commute y a b
    → RunsInSystem y s before m → IsApplicable y b m → RunsInSystem y m (a ∷ b ∷ later) t
    → Rearranges y s t (before ++ a ∷ b ∷ later) (before ++ b ∷ a ∷ later)

-- the first operator of the set, to the front
abbrev pub FirstInsideMovesToFront : Type 0
FirstInsideMovesToFront = (y : System) (set : ℕ → Bool) (s t : State) (p : List ℕ)
    → ListsReached y → Listed y.states s
    → (f : FirstOf y set s p) → RunsInSystem y s p t
    → Rearranges y s t p (f.first ∷ (f.before ++ f.later))

-- a plan that goes on from the state, begun inside
abbrev pub PlansMayBeginInside : Type 0
PlansMayBeginInside = (y : System) (set : ℕ → Bool) (s t : State) (p : List ℕ)
    → ListsReached y → Listed y.states s → Stubborn y set s
    → RunsInSystem y s p t → IsTrue (y.goal t) → ¬ (p ≡ [])
    → (q : List ℕ) × BeginsIn set q × Rearranges y s t p q

-- each step in the set of its state
abbrev pub ClassesKeepAMember : Type 0
ClassesKeepAMember = (y : System) (set : State → ℕ → Bool) (s t : State) (p : List ℕ)
    → ListsReached y → ((r : State) → Listed y.states r → Stubborn y (set r) r)
    → Listed y.states s → RunsInSystem y s p t → IsTrue (y.goal t)
    → (q : List ℕ) × StepsInside y set s q × Rearranges y s t p q

-- the same where a set is chosen after each list of operators, as in a queue of prefixes
abbrev pub ChosenSetsKeepAMember : Type 0
ChosenSetsKeepAMember = (y : System) (set : List ℕ → ℕ → Bool) (s t : State) (p : List ℕ)
    → ListsReached y → ((e : List ℕ) (r : State) → RunsInSystem y s e r → Stubborn y (set e) r)
    → Listed y.states s → RunsInSystem y s p t → IsTrue (y.goal t)
    → (q : List ℕ) × StepsChosen set [] q × Rearranges y s t p q
