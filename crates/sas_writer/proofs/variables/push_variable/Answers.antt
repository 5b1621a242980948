use Rattle.std.proofs.Common.{◌++◌, ◌∷◌, [], length, map}
use Rattle.std.specs.Prelude.{codes, decimal}
use Rattle.sas_writer.specs.Spelling.{name_line, or_minus_one}
use Rattle.sas_writer.specs.TaskLines.{variable_lines}
use Rattle.sas_writer.proofs.Growth.{then, on_ok}
use Rattle.sas_writer.proofs.variables.push_variable.Goals as goal

pub returns : goal.returns
unfolding variable_lines
returns c =
    let t = c.args.text.now in
    on_ok c.push_word-2.result _ _
    (λ e. then t ((((codes "begin_variable" ∷ []) ++ (name_line c.args.variable.now.name ∷ []))
    ++ (or_minus_one c.args.variable.now.layer ∷ [])) ++ (decimal (length c.args.variable.now.values) ∷ map
    name_line c.args.variable.now.values)) (codes "end_variable" ∷ [])
    (then t (((codes "begin_variable" ∷ []) ++ (name_line c.args.variable.now.name ∷ []))
    ++ (or_minus_one c.args.variable.now.layer ∷ [])) (decimal (length c.args.variable.now.values) ∷ map
    name_line c.args.variable.now.values)
    (then t ((codes "begin_variable" ∷ []) ++ (name_line c.args.variable.now.name ∷ []))
    (or_minus_one c.args.variable.now.layer ∷ []) (then t (codes "begin_variable" ∷ [])
    (name_line c.args.variable.now.name ∷ []) (c.in_ok-push_word.ensures) c.in_ok-push_name.ensures)
    c.in_ok-push_layer.ensures) c.in_ok-push_values.ensures) e) c.push_word-2.ensures
