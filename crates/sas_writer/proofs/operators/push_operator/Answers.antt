use Rattle.std.proofs.Common.{◌++◌, ◌∷◌, [], length, map}
use Rattle.std.specs.Prelude.{codes, decimal}
use Rattle.sas_writer.specs.Spelling.{name_line, effect_line}
use Rattle.sas_writer.specs.TaskLines.{operator_lines, facts_lines}
use Rattle.sas_writer.proofs.Growth.{then, on_ok}
use Rattle.sas_writer.proofs.operators.push_operator.Goals as goal

pub returns-clause-lines : goal.returns-clause-lines
unfolding operator_lines
returns-clause-lines c =
    let t = c.args.text.now in
    on_ok c.push_word-2.result _ _
    (λ e. then t (((((codes "begin_operator" ∷ []) ++ (name_line c.args.operator.now.name ∷ []))
    ++ (facts_lines c.args.operator.now.prevail)) ++ (decimal (length c.args.operator.now.effects) ∷ map
    effect_line c.args.operator.now.effects)) ++ (decimal c.args.operator.now.cost ∷ []))
    (codes "end_operator" ∷ [])
    (then t ((((codes "begin_operator" ∷ []) ++ (name_line c.args.operator.now.name ∷ []))
    ++ (facts_lines c.args.operator.now.prevail)) ++ (decimal (length c.args.operator.now.effects) ∷ map
    effect_line c.args.operator.now.effects)) (decimal c.args.operator.now.cost ∷ [])
    (then t (((codes "begin_operator" ∷ []) ++ (name_line c.args.operator.now.name ∷ []))
    ++ (facts_lines c.args.operator.now.prevail)) (decimal (length c.args.operator.now.effects) ∷ map
    effect_line c.args.operator.now.effects)
    (then t ((codes "begin_operator" ∷ []) ++ (name_line c.args.operator.now.name ∷ []))
    (facts_lines c.args.operator.now.prevail) (then t (codes "begin_operator" ∷ [])
    (name_line c.args.operator.now.name ∷ []) (c.in_ok-push_word.ensures) c.in_ok-push_name.ensures)
    c.in_ok-push_facts.ensures) c.in_ok-push_effects.ensures) c.in_ok-push_cost.ensures.line) e)
    c.push_word-2.ensures
