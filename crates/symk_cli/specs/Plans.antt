-- Plan texts: why PLANS is refused, and the verdict on it.
use Rattle.std.specs.Prelude.{◌≡◌, ℕ, ◌≤◌, List, length, Option, IsSomeAnd}
use Rattle.symk_io.specs.View.{Bytes}
use Rattle.symk_text.specs.Lines.{lines}
use Rattle.symk_task.specs.declared.parts.Mode.{Mode}
use Rattle.symk_task.specs.declared.parts.TaskParts.{TaskParts}
use Rattle.plan_out.specs.declared.blocks.ReadBlock.{ReadBlock}
use Rattle.plan_out.specs.declared.read.PlansFault.TheVariants.{Offence}
use Rattle.plan_out.specs.Plans.{IsPlansOf}
use Rattle.plan_out.specs.Refused.{PlansRefusedAt}
use Rattle.symk_cli.specs.Refusals.{most_bytes, TextRefused, plans_offence_text}
use Rattle.symk_cli.specs.Verdicts.{Verdict}
use Rattle.symk_cli.specs.declared.reading.Named.TheVariants as named
use Rattle.run_status.specs.declared.status.Status.{Status}
use Rattle.run_status.specs.declared.status.Status.TheVariants as status

-- The text is a plan text that states these blocks, of lawful length.
pub record IsPlansText (P : Bytes) (blocks : List ReadBlock) : Type 0 where
  pub short : length P ≤ most_bytes
  pub plans : IsPlansOf (lines P) blocks

-- The text names the first line of PLANS at which no plan text can go on so.
pub record PlansOffence (P out : Bytes) : Type 0 where
  pub short : length P ≤ most_bytes
  pub line : ℕ
  pub offends : PlansRefusedAt (lines P) (Offence line)
  pub text : out ≡ plans_offence_text line

-- PLANS is refused under the status, with the text
abbrev pub PlansRefused : Type 0 → Option Bytes → Status → Bytes → Type 0
PlansRefused rose P status.Offending out = IsSomeAnd P (λ text. PlansOffence text out)
PlansRefused rose P result out = TextRefused rose named.Plans P result out

-- the blocks that PLANS states are judged
abbrev pub Judged : TaskParts → Mode → Option Bytes → Status → Bytes → Type 0
Judged task mode P result out = IsSomeAnd P (λ text. (blocks : List ReadBlock) × IsPlansText text blocks × Verdict task mode blocks result out)
