use Rattle.std.proofs.Common.{◌++◌, ◌∷◌, []}
use Rattle.std.specs.Prelude.{codes}
use Rattle.sas_writer.specs.TaskLines.{goal_lines, facts_lines}
use Rattle.sas_writer.proofs.Growth.{then, on_ok}
use Rattle.sas_writer.proofs.sections.push_goal.Goals as goal

pub returns : goal.returns
unfolding goal_lines
returns c =
    let t = c.args.text.now in
    on_ok c.push_word-2.result _ _ (λ e. then t ((codes "begin_goal" ∷ []) ++ (facts_lines c.args.facts.now))
    (codes "end_goal" ∷ []) (then t (codes "begin_goal" ∷ []) (facts_lines c.args.facts.now)
    (c.in_ok-push_word.ensures) c.in_ok-push_facts.ensures) e) c.push_word-2.ensures
