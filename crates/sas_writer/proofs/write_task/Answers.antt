use Rattle.std.proofs.Common.{◌≡◌, ℕ, List, ◌++◌, ap, sym, subst, ◌∙◌}
use Rattle.symk_text.specs.Lines.{lines}
use Rattle.symk_task.specs.declared.parts.TaskParts.{TaskParts}
use Rattle.sas_reader.specs.Format.{IsFileOf}
use Rattle.sas_writer.specs.TaskLines.{task_text, HasSmallCosts}
use Rattle.sas_writer.proofs.FileRows.{text_is_file}
use Rattle.sas_writer.proofs.write_task.Goals as goal

pub returns-clause-file : goal.returns-clause-file
returns-clause-file c =
    let task = c.args.task.now in
    let costs = subst (λ (t : TaskParts). HasSmallCosts t.operators) c.parts.ensures.value c.in_ok-push_task.ensures.costs in
    let written : c.into_vec.result.items ≡ task_text task =
    c.into_vec.ensures ∙ c.in_ok-push_task.ensures.text ∙ ap (λ (t : List ℕ). t ++ task_text c.parts.result.now)
    c.new-text.ensures ∙ ap task_text c.parts.ensures.value in
    subst (λ (bytes : List ℕ). IsFileOf (lines bytes) task) (sym written) (text_is_file task c.parts.ensures.fits costs)
