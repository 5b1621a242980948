use Rattle.std.proofs.Common.{◌++◌, ◌∷◌, []}
use Rattle.std.specs.Prelude.{codes}
use Rattle.sas_writer.specs.TaskLines.{rule_lines, facts_lines, head_line}
use Rattle.sas_writer.proofs.Growth.{then, on_ok}
use Rattle.sas_writer.proofs.rules.push_rule.Goals as goal

pub returns : goal.returns
unfolding rule_lines
returns c =
    let t = c.args.text.now in
    on_ok c.push_word-2.result _ _
    (λ e. then t (((codes "begin_rule" ∷ []) ++ (facts_lines c.args.rule.now.conds))
    ++ (head_line c.args.rule.now ∷ [])) (codes "end_rule" ∷ [])
    (then t ((codes "begin_rule" ∷ []) ++ (facts_lines c.args.rule.now.conds)) (head_line c.args.rule.now ∷ [])
    (then t (codes "begin_rule" ∷ []) (facts_lines c.args.rule.now.conds) (c.in_ok-push_word.ensures)
    c.in_ok-push_facts.ensures) c.in_ok-push_head.ensures) e) c.push_word-2.ensures
