-- Lists that go on from those that PLANS states.
use Rattle.std.specs.Prelude.{◌≡◌, ℕ, ◌-◌, ◌⊎◌, List, length, slice_get, None}
use Rattle.std.specs.Option.{option_map_or}
use Rattle.symk_io.specs.View.{Bytes}
use Rattle.symk_task.specs.declared.parts.Mode.{Mode}
use Rattle.symk_task.specs.declared.parts.TaskParts.{TaskParts}
use Rattle.plan_out.specs.declared.blocks.ReadBlock.{ReadBlock}
use Rattle.plan_out.specs.declared.check.Checked.TheVariants.{Good}
use Rattle.plan_out.specs.Fails.{Finds}
use Rattle.plan_out.specs.Lists.{plans_of}
use Rattle.run_status.specs.Sent.{Sent, IsOne}
use Rattle.plan_run.specs.Lists.{Aim, aim_after, MayCome, PartListing, WholeOrPart}
use Rattle.plan_run.specs.declared.options.Wanted.{Wanted}
use Rattle.run_status.specs.declared.status.Status.{Status}
use Rattle.run_status.specs.declared.status.Status.TheVariants.{BadList}
use Rattle.symk_cli.specs.Verdicts.{Verdict}

-- no block fails
abbrev pub AreGood : TaskParts → Mode → List ReadBlock → Type 0
AreGood task mode blocks = Finds task mode blocks (Good (length blocks))

-- the cost that the last block states, and 0 where there is none
abbrev pub last_stated : List ReadBlock → ℕ
last_stated blocks = option_map_or (λ block. block.cost) (slice_get blocks (length blocks - 1)) 0

-- what is listed: plans after those of the blocks
abbrev pub aim_from : TaskParts → Mode → Wanted → List ReadBlock → Aim
aim_from task mode wanted blocks = aim_after task mode wanted None (plans_of blocks)

-- the verdict that a block fails
abbrev pub IsBad : TaskParts → Mode → List ReadBlock → Status → Bytes → Type 0
IsBad task mode blocks result out = (result ≡ BadList) × Verdict task mode blocks result out

-- that verdict; or, each block being good, a list that goes on from them, or what they miss
abbrev pub MayGoOn : TaskParts → Mode → Wanted → List ReadBlock → Status → List Bytes → Type 0
MayGoOn task mode wanted blocks result out = IsOne (IsBad task mode blocks result) out ⊎ (AreGood task mode blocks × MayCome (aim_from task mode wanted blocks) result out)

-- a front of such a list
abbrev pub MayGoPart : TaskParts → Mode → Wanted → List ReadBlock → Sent → Type 0
MayGoPart task mode wanted blocks out = AreGood task mode blocks × PartListing (aim_from task mode wanted blocks) out

abbrev pub OrGoesOn : TaskParts → Mode → Wanted → List ReadBlock → Status → Sent → Type 0
OrGoesOn task mode wanted blocks = WholeOrPart (MayGoOn task mode wanted blocks) (MayGoPart task mode wanted blocks)
