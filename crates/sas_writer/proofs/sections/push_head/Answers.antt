use Rattle.std.proofs.Common.{◌++◌, ◌∷◌, [], ap, ◌∙◌}
use Rattle.std.specs.Prelude.{codes, decimal}
use Rattle.sas_writer.specs.TaskLines.{head_lines}
use Rattle.sas_writer.proofs.Growth.{then, on_ok}
use Rattle.sas_writer.proofs.sections.push_head.Goals as goal

pub returns : goal.returns
unfolding head_lines
returns c =
    let t = c.args.text.now in
    on_ok c.push_word-5.result _ _
    (λ e. then t (((((codes "begin_version" ∷ []) ++ (codes "3" ∷ [])) ++ (codes "end_version" ∷ []))
    ++ (codes "begin_metric" ∷ [])) ++ (decimal c.args.metric ∷ [])) (codes "end_metric" ∷ [])
    (then t ((((codes "begin_version" ∷ []) ++ (codes "3" ∷ [])) ++ (codes "end_version" ∷ []))
    ++ (codes "begin_metric" ∷ [])) (decimal c.args.metric ∷ [])
    (then t (((codes "begin_version" ∷ []) ++ (codes "3" ∷ [])) ++ (codes "end_version" ∷ []))
    (codes "begin_metric" ∷ []) (then t ((codes "begin_version" ∷ []) ++ (codes "3" ∷ []))
    (codes "end_version" ∷ []) (then t (codes "begin_version" ∷ []) (codes "3" ∷ []) (c.in_ok-push_word.ensures)
    c.in_ok-push_word-2.ensures) c.in_ok-push_word-3.ensures) c.in_ok-push_word-4.ensures)
    (c.in_ok-push_number_line.ensures ∙ ap (λ n. c.push_word-4.new.text ++ (decimal n ++ 10 ∷ []))
    c.from.ensures)) e) c.push_word-5.ensures
