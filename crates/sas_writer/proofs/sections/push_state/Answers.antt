use Rattle.std.proofs.Common.{◌++◌, ◌∷◌, [], map}
use Rattle.std.specs.Prelude.{codes, decimal}
use Rattle.sas_writer.specs.TaskLines.{state_lines}
use Rattle.sas_writer.proofs.Growth.{then, on_ok}
use Rattle.sas_writer.proofs.sections.push_state.Goals as goal

pub returns : goal.returns
unfolding state_lines
returns c =
    let t = c.args.text.now in
    on_ok c.push_word-2.result _ _ (λ e. then t ((codes "begin_state" ∷ []) ++ (map decimal c.args.values.now))
    (codes "end_state" ∷ []) (then t (codes "begin_state" ∷ []) (map decimal c.args.values.now)
    (c.in_ok-push_word.ensures) c.in_ok-push_values.ensures) e) c.push_word-2.ensures
