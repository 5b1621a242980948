use Rattle.std.proofs.Common.{◌++◌, ◌∷◌, []}
use Rattle.std.specs.Prelude.{codes}
use Rattle.sas_writer.specs.TaskLines.{mutex_lines, facts_lines}
use Rattle.sas_writer.proofs.Growth.{then, on_ok}
use Rattle.sas_writer.proofs.sections.push_mutex.Goals as goal

pub returns : goal.returns
unfolding mutex_lines
returns c =
    let t = c.args.text.now in
    on_ok c.push_word-2.result _ _ (λ e. then t ((codes "begin_mutex_group" ∷ []) ++ (facts_lines c.args.facts.now))
    (codes "end_mutex_group" ∷ []) (then t (codes "begin_mutex_group" ∷ []) (facts_lines c.args.facts.now)
    (c.in_ok-push_word.ensures) c.in_ok-push_facts.ensures) e) c.push_word-2.ensures
