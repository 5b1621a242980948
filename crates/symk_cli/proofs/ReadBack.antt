-- A task that is written and read back.
use Rattle.std.proofs.Common.{◌≡◌, ◌∙◌, ℕ, sym, subst}
use Rattle.symk_io.specs.View.{Bytes}
use Rattle.symk_text.specs.Lines.{lines}
use Rattle.symk_task.specs.declared.parts.TaskParts.{TaskParts}
use Rattle.sas_reader.specs.Format.{IsFileOf}
use Rattle.sas_reader.specs.Refused.{RefusedAt}
use Rattle.sas_reader.specs.declared.fault.Shape.{Shape}
use Rattle.sas_reader.specs.declared.fault.ReadFault.{ReadFault}
use Rattle.sas_reader.specs.declared.fault.ReadFault.TheVariants.{Offence, Memory}
use Rattle.sas_reader.proofs.Whole.{one_task}
use Rattle.sas_writer.proofs.FileRows.{file_is_taken}

-- the task that is read is the one that was written
pub read_back : (read written : Bytes) (one other wanted : TaskParts) → read ≡ written → IsFileOf (lines written) other → IsFileOf (lines read) one → other ≡ wanted → one ≡ wanted
read_back read written one other wanted same file found is =
    one_task (lines written) one other (subst (λ (bytes : Bytes). IsFileOf (lines bytes) one) same found) file ∙ is

-- no line of it offends
pub not_refused : (read written : Bytes) (task : TaskParts) (fault : ReadFault) (line : ℕ) (wanted : Shape) → read ≡ written → IsFileOf (lines written) task → fault ≡ Offence line wanted
    → RefusedAt (lines read) fault → ⊥
not_refused read written task fault line wanted same file e refused =
    let whole = subst (λ (f : ReadFault). RefusedAt (lines read) f) e refused in
    let memory = file_is_taken (lines read) task (Offence line wanted) (subst (λ (bytes : Bytes). IsFileOf (lines bytes) task) (sym same) file) whole in
    absurd (other line wanted memory)
  where
    other : (line : ℕ) (wanted : Shape) → Offence line wanted ≡ Memory → ⊥
    other line wanted f = cc
