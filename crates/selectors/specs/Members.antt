-- What one call of an engine that keeps a member of each class does to what pends.
use Rattle.std.specs.Prelude.{◌≢◌, ℕ, ◌≤◌, List, Option, Some, None, Result, Ok, Err}
use Rattle.symk_task.specs.declared.parts.Mode.{Mode}
use Rattle.symk_task.specs.declared.parts.Mode.TheVariants.{TopK, Loopless, Unordered}
use Rattle.symk_task.specs.Plans.{Same}
use Rattle.task_system.specs.System.{System, IsSystemPlan, IsSystemPlanOf, cost_in_system}
use Rattle.lazy_plans.specs.Law.{NoneLeft, MayStop, top}
use Rattle.lazy_plans.specs.declared.stop.Stop.{Stop}

-- a rearrangement of q pends, which may be q itself
pub record HasPendingMember (pends : List ℕ → Type 0) (q : List ℕ) : Type 0 where
  pub member : List ℕ
  pub alike : Same Unordered q member
  pub pending : pends member

-- p pended, costs no more than is wanted, and none that pended is cheaper. What pends afterwards pended before and is
-- not p; and what pended keeps a member of its class, unless it is a rearrangement of p.
pub record GaveMember (y : System) (most : Option ℕ) (before after : List ℕ → Type 0) (p : List ℕ) : Type 0 where
  pub pended : before p
  pub fits : cost_in_system y p ≤ top most
  pub least : (q : List ℕ) → before q → cost_in_system y p ≤ cost_in_system y q
  pub fewer : (q : List ℕ) → after q → before q × (q ≢ p)
  pub members : (q : List ℕ) → before q → ¬ Same Unordered q p → HasPendingMember after q

-- what pends afterwards pended before, and what pended keeps a member of its class
pub record KeepsMembers (before after : List ℕ → Type 0) : Type 0 where
  pub fewer : (q : List ℕ) → after q → before q
  pub members : (q : List ℕ) → before q → HasPendingMember after q

-- what a call answers, and what pends afterwards
abbrev pub TurnedMembers : System → Option ℕ → (List ℕ → Type 0) → (List ℕ → Type 0) → Result (Option (List ℕ)) Stop → Type 0
TurnedMembers y most before after (Ok (Some p)) = GaveMember y most before after p
TurnedMembers y most before after (Ok None) = NoneLeft y most before × KeepsMembers before after
TurnedMembers y most before after (Err stop) = MayStop y most before stop × KeepsMembers before after

-- what pends is a plan
abbrev pub ArePlans : System → (List ℕ → Type 0) → Type 0
ArePlans y pends = (p : List ℕ) → pends p → IsSystemPlan y p

-- each plan of the system has a rearrangement that pends
abbrev pub HasEachClass : System → (List ℕ → Type 0) → Type 0
HasEachClass y pends = (p : List ℕ) → IsSystemPlan y p → HasPendingMember pends p

-- a plan of any mode is a plan
pub plan_of : (y : System) (m : Mode) (p : List ℕ) → IsSystemPlanOf y m p → IsSystemPlan y p
plan_of y TopK p h = h
plan_of y Unordered p h = h
plan_of y Loopless p h = h.0
