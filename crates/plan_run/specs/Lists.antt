-- Lists of plans, and how they end.
use Rattle.std.specs.Prelude.{◌≡◌, ℕ, ◌+◌, ◌<◌, ◌≤◌, List, [], ◌∷◌, ◌++◌, length, codes, decimal, ◌⊎◌, ⊤, All, true, false, if◌then◌else◌, Option, Some, None, IsSome, IfSome}
use Rattle.symk_io.specs.View.{Bytes}
use Rattle.symk_task.specs.declared.parts.Mode.{Mode}
use Rattle.symk_task.specs.declared.parts.TaskParts.{TaskParts}
use Rattle.symk_task.specs.Plans.{IsPlanOf, IsListed, IsRight, AllListed, AllInRange, HasDearer, cost_of}
use Rattle.plan_out.specs.declared.end.End.{End}
use Rattle.plan_out.specs.declared.end.End.TheVariants as end
use Rattle.plan_out.specs.Texts.{block, end_line}
use Rattle.plan_run.specs.Missed.{MissesPlan}
use Rattle.run_status.specs.Ends.{FrontOf}
use Rattle.run_status.specs.Sent.{Sent, AreWholePieces, IsFrontOfPieces}
use Rattle.plan_run.specs.Listable.{IsListable}
use Rattle.plan_run.specs.declared.options.Wanted.{Wanted}
use Rattle.run_status.specs.declared.status.Status.{Status}
use Rattle.run_status.specs.declared.status.Status.TheVariants as status

-- the blocks of the plans, numbered from i
abbrev pub blocks_from : TaskParts → ℕ → List (List ℕ) → List Bytes
blocks_from task i [] = []
blocks_from task i (p ∷ plans) = block task i p ∷ blocks_from task (i + 1) plans

-- each plan of the mode that is wanted is listed: each up to the greatest cost, where there is one, and else each whose cost 64
-- bits hold
abbrev pub AllWanted : TaskParts → Mode → Option ℕ → List (List ℕ) → Type 0
AllWanted task mode None plans = AllInRange task mode plans
AllWanted task mode (Some most) plans = (p : List ℕ) → IsPlanOf task mode p → cost_of task p ≤ most → IsListed mode plans p

-- The end that is said of a list is the true one. With Exhausted each plan of the mode is listed; with CostRange each whose cost
-- 64 bits hold, and a dearer one there is; with Bounded each up to the greatest cost that is wanted; and with More one that is
-- wanted isn't. Reached says no more: nothing was looked for after as many plans as were asked for.
abbrev pub IsTrueEnd : TaskParts → Mode → Option ℕ → List (List ℕ) → Option End → Type 0
IsTrueEnd task mode limit plans None = ⊤
IsTrueEnd task mode limit plans (Some (end.Reached n)) = ⊤
IsTrueEnd task mode limit plans (Some (end.More n)) = ¬ AllWanted task mode limit plans
IsTrueEnd task mode limit plans (Some (end.Bounded n)) = IsSome limit × AllWanted task mode limit plans
IsTrueEnd task mode limit plans (Some (end.Exhausted n)) = (limit ≡ None) × AllListed task mode plans
IsTrueEnd task mode limit plans (Some end.CostRange) = (limit ≡ None) × AllInRange task mode plans × HasDearer task mode

-- What a list promises of its plans, while it goes on (None) and with the end that is said of it: they are the cheapest plans of
-- the mode, each once, by cost, none of them above the greatest cost that is wanted; each can be printed; and the end is the
-- true one.
pub record IsListOf (task : TaskParts) (mode : Mode) (limit : Option ℕ) (plans : List (List ℕ)) (ended : Option End) : Type 0 where
  pub right : IsRight task mode plans
  pub listable : All (IsListable task) plans
  pub within : IfSome limit (λ most. All (λ p. cost_of task p ≤ most) plans)
  pub end : IsTrueEnd task mode limit plans ended

-- the status that goes with the end
abbrev pub end_status : End → Status
end_status (end.Reached n) = status.Reached
end_status (end.More n) = status.MoreLeft
end_status (end.Bounded n) = status.Bounded
end_status (end.Exhausted n) = status.Exhausted
end_status end.CostRange = status.CostRange

-- how a list of n plans ends that has all that are wanted
abbrev pub all_end : Option ℕ → ℕ → End
all_end None n = end.Exhausted n
all_end (Some most) n = end.Bounded n

-- how many plans are asked for: one more than are listed, where one more is looked for
abbrev pub asked : Wanted → ℕ
asked wanted = if wanted.more then wanted.count + 1 else wanted.count

-- The end that is said of a list of n plans after so many earlier ones; it names the number of both. Reached and More come with
-- as many as are wanted; the other ends where fewer are listed or, where one more was looked for, no more.
abbrev pub IsEndOf : Wanted → ℕ → ℕ → End → Type 0
IsEndOf wanted before n (end.Reached m) = (m ≡ before + n) × (n ≡ wanted.count) × (wanted.more ≡ false)
IsEndOf wanted before n (end.More m) = (m ≡ before + n) × (n ≡ wanted.count) × (wanted.more ≡ true)
IsEndOf wanted before n (end.Bounded m) = (m ≡ before + n) × (n < asked wanted)
IsEndOf wanted before n (end.Exhausted m) = (m ≡ before + n) × (n < asked wanted)
IsEndOf wanted before n end.CostRange = n < asked wanted

-- what is listed: plans of a task in a mode, how many of them, up to which cost, and after which earlier ones
pub record Aim : Type 0 where
  pub task : TaskParts
  pub mode : Mode
  pub wanted : Wanted
  pub limit : Option ℕ
  pub earlier : List (List ℕ)

-- with no earlier list, and after one
abbrev pub aim : TaskParts → Mode → Wanted → Option ℕ → Aim
aim task mode wanted limit = record { task = task; mode = mode; wanted = wanted; limit = limit; earlier = [] }

abbrev pub aim_after : TaskParts → Mode → Wanted → Option ℕ → List (List ℕ) → Aim
aim_after task mode wanted limit earlier = record { task = task; mode = mode; wanted = wanted; limit = limit; earlier = earlier }

-- the pieces of a list, while it goes on: its blocks, numbered on from those of the earlier list
abbrev pub list_pieces : Aim → List (List ℕ) → List Bytes
list_pieces a plans = blocks_from a.task (length a.earlier + 1) plans

-- The pieces are the blocks of a list of plans, of as many as were asked for or fewer, and the line that says how it ends. What
-- is promised is promised of the earlier list and this one together.
pub record Listing (a : Aim) (result : Status) (out : List Bytes) : Type 0 where
  pub plans : List (List ℕ)
  pub ended : End
  pub promise : IsListOf a.task a.mode a.limit (a.earlier ++ plans) (Some ended)
  pub fits : IsEndOf a.wanted (length a.earlier) (length plans) ended
  pub says : result ≡ end_status ended
  pub pieces : out ≡ list_pieces a plans ++ (end_line ended ∷ [])

-- What went out is a front of a list's blocks, which lack its end.
pub record PartListing (a : Aim) (out : Sent) : Type 0 where
  pub plans : List (List ℕ)
  pub promise : IsListOf a.task a.mode a.limit (a.earlier ++ plans) None
  pub number : length plans ≤ a.wanted.count
  pub front : IsFrontOfPieces out (list_pieces a plans)

-- the line that says what the earlier list misses
unfoldable pub gap_text : ℕ → Bytes
gap_text cost = codes "plans miss a plan of cost " ++ decimal cost ++ codes "\n"

-- The earlier list misses a plan, and the one piece says what the cheapest such plan costs.
pub record Gaps (a : Aim) (result : Status) (out : List Bytes) : Type 0 where
  pub cost : ℕ
  pub misses : MissesPlan a.task a.mode a.earlier cost
  pub says : result ≡ status.Gap
  pub pieces : out ≡ gap_text cost ∷ []

-- a list, or what the earlier one misses
abbrev pub MayCome : Aim → Status → List Bytes → Type 0
MayCome a result out = Listing a result out ⊎ Gaps a result out

-- what is whole goes out, or a front of it, or a part that goes on
abbrev pub WholeOrPart : (Status → List Bytes → Type 0) → (Sent → Type 0) → Status → Sent → Type 0
WholeOrPart Whole Part status.WriteFault out = FrontOf Whole out ⊎ Part out
WholeOrPart Whole Part status.Memory out = FrontOf Whole out ⊎ Part out
WholeOrPart Whole Part result out = AreWholePieces (Whole result) out

-- the list goes out, or a front of it, or what the earlier one misses
abbrev pub OrPart : Aim → Status → Sent → Type 0
OrPart a = WholeOrPart (MayCome a) (PartListing a)
