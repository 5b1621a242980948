-- Lists up to a cost.
use Rattle.std.specs.Prelude.{◌≡◌, ℕ, ◌-◌, ◌*◌, ◌^◌, ◌<◌, ◌≤◌, ◌/◌, ◌⊎◌, ⊤, min, List, [], ◌∷◌, Option, Some, None}
use Rattle.symk_io.specs.View.{Bytes}
use Rattle.symk_task.specs.declared.parts.Mode.{Mode}
use Rattle.symk_task.specs.declared.parts.TaskParts.{TaskParts}
use Rattle.symk_task.specs.Plans.{IsPlan, cost_of}
use Rattle.plan_out.specs.declared.end.End.{End}
use Rattle.plan_out.specs.declared.end.End.TheVariants as end
use Rattle.plan_out.specs.Texts.{end_line}
use Rattle.plan_run.specs.declared.reaching.Least.{Least}
use Rattle.plan_run.specs.declared.reaching.Least.TheVariants.{Costs, Dear, Never}
use Rattle.plan_run.specs.declared.options.Wanted.{Wanted}
use Rattle.plan_run.specs.declared.options.Reach.{Reach}
use Rattle.plan_run.specs.declared.options.Reach.TheVariants.{All, UpTo, Percent}
use Rattle.run_status.specs.declared.status.Status.{Status}
use Rattle.run_status.specs.Sent.{Sent}
use Rattle.plan_run.specs.Lists.{aim, end_status, Listing, PartListing, WholeOrPart}

-- 64 bits hold the greatest cost, or it is at most 100 times the least one
abbrev pub IsNear : Reach → Type 0
IsNear All = ⊤
IsNear (UpTo most) = most < 2 ^ 64
IsNear (Percent percent) = percent ≤ 10000

-- a plan of the task costs so much, and none costs less
abbrev pub IsLeastCost : TaskParts → ℕ → Type 0
IsLeastCost task c = ((p : List ℕ) × IsPlan task p × (cost_of task p ≡ c)) × ((p : List ℕ) → IsPlan task p → c ≤ cost_of task p)

-- no plan of the task costs so much that 64 bits hold it, though there is one; there is none
abbrev pub AllDear : TaskParts → Type 0
AllDear task = ((p : List ℕ) × IsPlan task p) × ((p : List ℕ) → IsPlan task p → 2 ^ 64 ≤ cost_of task p)

abbrev pub NoPlan : TaskParts → Type 0
NoPlan task = (p : List ℕ) → ¬ IsPlan task p

-- what the cheapest plan of the task costs, if there is one
abbrev pub HasLeast : TaskParts → Least → Type 0
HasLeast task (Costs c) = IsLeastCost task c × (c < 2 ^ 64)
HasLeast task Dear = AllDear task
HasLeast task Never = NoPlan task

-- the whole part of so many percent of a cost, or what 64 bits hold, if that is less
abbrev pub share : ℕ → ℕ → ℕ
share cost percent = min (cost * percent / 100) (2 ^ 64 - 1)

-- the greatest cost that is wanted, if there is one; with so many percent, where a plan's cost is within 64 bits
abbrev pub IsLimit : TaskParts → Reach → Option ℕ → Type 0
IsLimit task All limit = limit ≡ None
IsLimit task (UpTo most) limit = limit ≡ Some most
IsLimit task (Percent percent) limit = (c : ℕ) × IsLeastCost task c × (c < 2 ^ 64) × (limit ≡ Some (share c percent))

-- the end that is said where so many percent of the least cost are wanted, and no plan's cost is within 64 bits: there is no plan,
-- or each is too dear
abbrev pub IsEndOfNone : TaskParts → End → Type 0
IsEndOfNone task (end.Exhausted n) = (n ≡ 0) × NoPlan task
IsEndOfNone task end.CostRange = AllDear task
IsEndOfNone task (end.Reached n) = ⊥
IsEndOfNone task (end.More n) = ⊥
IsEndOfNone task (end.Bounded n) = ⊥

-- No plan is listed, and the one piece is the line that says why.
pub record NoListing (task : TaskParts) (result : Status) (out : List Bytes) : Type 0 where
  pub ended : End
  pub why : IsEndOfNone task ended
  pub says : result ≡ end_status ended
  pub pieces : out ≡ end_line ended ∷ []

abbrev pub IfPercent : Reach → Type 0 → Type 0
IfPercent All X = ⊥
IfPercent (UpTo most) X = ⊥
IfPercent (Percent percent) X = X

-- a list of a task up to a cost, and a part of one
abbrev pub MayList : TaskParts → Mode → Wanted → Reach → Status → List Bytes → Type 0
MayList task mode wanted reach result out = ((limit : Option ℕ) × IsLimit task reach limit × Listing (aim task mode wanted limit) result out) ⊎ IfPercent reach (NoListing task result out)

abbrev pub MayPart : TaskParts → Mode → Wanted → Reach → Sent → Type 0
MayPart task mode wanted reach out = (limit : Option ℕ) × IsLimit task reach limit × PartListing (aim task mode wanted limit) out

-- the list goes out, or a part of it
abbrev pub OrReached : TaskParts → Mode → Wanted → Reach → Status → Sent → Type 0
OrReached task mode wanted reach = WholeOrPart (MayList task mode wanted reach) (MayPart task mode wanted reach)
