-- What is put is what may come.
use Rattle.std.proofs.Common.{◌≡◌, subst, sym}
use Rattle.symk_io.specs.View.{Bytes, SinkView}
use Rattle.symk_task.specs.declared.parts.TaskParts.{TaskParts}
use Rattle.cert_check.specs.declared.judging.CertVerdict.TheVariants.{Yes}
use Rattle.cert_out.specs.Written.{IsProof}
use Rattle.run_status.specs.Ends.{EndsWithText, OrFront, PutsOutWith}
use Rattle.run_status.specs.declared.status.Status.{Status}
use Rattle.run_status.specs.declared.status.Status.TheVariants.{Proved, HasPlan, Refuted}
use Rattle.run_status.proofs.Puts.{end_puts}
use Rattle.cert_run.specs.Proofs.{IsSolvable, IsUnsolvable, IsJudged, Proves, Refutes, has_plan_text, no_plan_text}

-- a certificate
pub proof_puts : (task : TaskParts) (text out : Bytes) (old new : SinkView) (result : Status) → IsProof task text
    × IsUnsolvable task → out ≡ text → EndsWithText Proved out old new result → PutsOutWith (OrFront (Proves task)) old new result
proof_puts task text out old new result proof same ends =
    end_puts (Proves task) Proved out old new result (subst (λ (t : Bytes). Proves task Proved t) (sym same) proof) ends

-- that there is a plan
pub plan_puts : (task : TaskParts) (out : Bytes) (old new : SinkView) (result : Status) → IsSolvable task
    → out ≡ has_plan_text → EndsWithText HasPlan out old new result → PutsOutWith (OrFront (Proves task)) old new result
plan_puts task out old new result plan same ends = end_puts (Proves task) HasPlan out old new result (same, plan) ends

-- that there is none
pub yes_puts : (task : TaskParts) (bytes out : Bytes) (old new : SinkView) (result : Status) → IsJudged task bytes Yes
    → out ≡ no_plan_text → EndsWithText Refuted out old new result → PutsOutWith (OrFront (Refutes task bytes)) old new result
yes_puts task bytes out old new result judged same ends = end_puts (Refutes task bytes) Refuted out old new result (judged, same) ends
