-- The laws of prefixes that are opened once for each node.
use Rattle.std.specs.Prelude.{◌≡◌, ℕ, ◌<◌, ◌≤◌, IsTrue, List, [], ◌∷◌, ◌++◌, Option, Some, None, Result, Ok, Err}
use Rattle.std.specs.Bool.{Decides}
use Rattle.std.specs.List.{AllByRecursion}
use Rattle.symk_task.specs.declared.parts.Mode.TheVariants.{TopK}
use Rattle.task_system.specs.System.{System, Listed, IsSystemPlan, cost_in_system}
use Rattle.space_api.specs.Listing.{ListsReached}
use Rattle.lazy_plans.specs.Law.{PendsAlike, MayStop, NoneLeft, Ended, last_of, top}
use Rattle.lazy_plans.specs.declared.stop.Stop.{Stop}
use Rattle.lazy_plans.specs.declared.stop.Stop.TheVariants.{Memory, CostRange}
use Rattle.lazy_plans.specs.declared.stop.Ending.{Ending}
use Rattle.lazy_plans.specs.Queue.{prefix, Bounds, Hopeless, Replaced}
use Rattle.selectors.specs.Members.{GaveMember, TurnedMembers, ArePlans}
use Rattle.member_laws.specs.Nodes.{IsJoinedAtNode, CoversOpened, PendsNode, GoesOnToJoin}
use Rattle.member_laws.specs.Told.{pends_node}
use Rattle.member_laws.specs.Opening.{Opening}

-- at first nothing was opened, and the empty prefix waits
abbrev pub EachPendsAtFirst : Type 0
EachPendsAtFirst = (y : System) → CoversOpened y [] ([] ∷ []) × ((p : List ℕ) → IsSystemPlan y p → PendsNode y [] p)

-- a plan that pends goes on from the queue, rearranged
abbrev pub PendingGoesOn : Type 0
PendingGoesOn = (y : System) (opened queue : List (List ℕ)) (p : List ℕ)
    → ListsReached y → CoversOpened y opened queue → PendsNode y opened p → GoesOnToJoin y queue p

-- and costs no less than each entry's bound
abbrev pub PendingIsBounded : Type 0
PendingIsBounded = (y : System) (opened queue : List (List ℕ)) (bound : ℕ) (p : List ℕ)
    → ListsReached y → CoversOpened y opened queue → AllByRecursion (λ e. Bounds y e bound) queue
    → PendsNode y opened p → bound ≤ cost_in_system y p

-- the queue is empty
abbrev pub EmptyLeavesNone : Type 0
EmptyLeavesNone = (y : System) (most : Option ℕ) (opened : List (List ℕ))
    → ListsReached y → CoversOpened y opened [] → NoneLeft y most (PendsNode y opened)

-- each entry is too dear
abbrev pub DearLeavesNone : Type 0
DearLeavesNone = (y : System) (cost bound : ℕ) (opened queue : List (List ℕ))
    → ListsReached y → CoversOpened y opened queue → AllByRecursion (λ e. Bounds y e bound) queue → cost < bound
    → NoneLeft y (Some cost) (PendsNode y opened)

-- each entry costs more than is listed, and a plan goes on from one
abbrev pub DearIsOutOfRange : Type 0
DearIsOutOfRange = (y : System) (bound : ℕ) (opened queue : List (List ℕ)) (e p : List ℕ)
    → ListsReached y → CoversOpened y opened queue → AllByRecursion (λ x. Bounds y x bound) queue → top None < bound
    → AllByRecursion (λ x. cost_in_system y x ≤ top None) opened
    → Listed queue e → IsSystemPlan y p → IsTrue (prefix e p)
    → MayStop y None (PendsNode y opened) CostRange

-- an entry is opened
abbrev pub OpeningCovers : Type 0
OpeningCovers = (y : System) (e : List ℕ) (opened old kids new : List (List ℕ))
    → CoversOpened y opened old → Opening y opened old kids e → Replaced old kids e new
    → CoversOpened y (opened ++ e ∷ []) new

-- one that is no plan
abbrev pub OpeningKeepsAll : Type 0
OpeningKeepsAll = (y : System) (e : List ℕ) (opened : List (List ℕ))
    → ¬ IsSystemPlan y e → PendsAlike (PendsNode y opened) (PendsNode y (opened ++ e ∷ []))

-- one that is a plan in range, where no plan that goes on from an entry is cheaper
abbrev pub OpeningGivesThePlan : Type 0
OpeningGivesThePlan = (y : System) (most : Option ℕ) (bound : ℕ) (e : List ℕ) (opened queue : List (List ℕ))
    → ListsReached y → CoversOpened y opened queue → AllByRecursion (λ x. Bounds y x bound) queue
    → IsSystemPlan y e → ¬ IsJoinedAtNode y opened e → cost_in_system y e ≤ bound → cost_in_system y e ≤ top most
    → GaveMember y most (PendsNode y opened) (PendsNode y (opened ++ e ∷ [])) e

-- an entry that joins one that was opened is left out
abbrev pub JoinedMayGo : Type 0
JoinedMayGo = (y : System) (e : List ℕ) (opened old new : List (List ℕ))
    → CoversOpened y opened old → IsJoinedAtNode y opened e → Replaced old [] e new → CoversOpened y opened new

-- an entry from which no plan goes on is left out
abbrev pub HopelessMayGo : Type 0
HopelessMayGo = (y : System) (e : List ℕ) (opened old new : List (List ℕ))
    → CoversOpened y opened old → Hopeless y TopK e → Replaced old [] e new → CoversOpened y opened new

-- an entry is put back, told better; or the queue stands in another order
abbrev pub EntriesMayBePutBack : Type 0
EntriesMayBePutBack = (y : System) (e : List ℕ) (opened old new : List (List ℕ))
    → CoversOpened y opened old → Replaced old (e ∷ []) e new → CoversOpened y opened new

-- what pends are plans, and whether a list pends is computed
abbrev pub PendingIsTold : Type 0
PendingIsTold = (y : System) (opened : List (List ℕ))
    → ArePlans y (PendsNode y opened) × ((p : List ℕ) → Decides (pends_node y opened p) (PendsNode y opened p))

-- a call of several turns, of which those before the last left what pends as it was
abbrev pub CallsFollowTurns : Type 0
CallsFollowTurns = (y : System) (most : Option ℕ) (first old new : List (List ℕ))
    → (result : Result (Option (List ℕ)) Stop) → PendsAlike (PendsNode y first) (PendsNode y old)
    → TurnedMembers y most (PendsNode y old) (PendsNode y new) result
    → TurnedMembers y most (PendsNode y first) (PendsNode y new) result

-- memory is refused before a prefix is opened
abbrev pub RefusalKeepsAll : Type 0
RefusalKeepsAll = (y : System) (most : Option ℕ) (first old : List (List ℕ))
    → PendsAlike (PendsNode y first) (PendsNode y old)
    → TurnedMembers y most (PendsNode y first) (PendsNode y old) (Err Memory)

-- the answer that ended it holds afterwards, and may be given again
abbrev pub EndingsStand : Type 0
EndingsStand = (y : System) (most : Option ℕ) (first now : List (List ℕ))
    → ((result : Result (Option (List ℕ)) Stop) → TurnedMembers y most (PendsNode y first) (PendsNode y now) result
    → Ended y most (PendsNode y now) (last_of result))
    × ((result : Result (Option (List ℕ)) Stop) (ending : Ending) → last_of result ≡ Some ending
    → Ended y most (PendsNode y now) (Some ending) → TurnedMembers y most (PendsNode y now) (PendsNode y now) result)
