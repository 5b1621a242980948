use Rattle.std.proofs.Common.{◌++◌, ◌∷◌, [], sym, ap, ◌∙◌, append_assoc}
use Rattle.sas_writer.specs.Spelling.{effect_line}
use Rattle.sas_writer.proofs.Growth.{line_more}
use Rattle.sas_writer.proofs.operators.push_each_effect.Goals as goal

pub loop-effect-preserved : goal.loop-effect-preserved
loop-effect-preserved c =
    let effect = c.effect-item.result in
    c.in_ok-push_end.ensures ∙ ap (λ t. t ++ 10 ∷ []) c.in_ok-push_effect.ensures ∙ append_assoc c.loop-effect.text (effect_line effect) (10 ∷ [])
    ∙ ap (λ t. t ++ (effect_line effect ++ 10 ∷ [])) c.loop-effect.invariant
    ∙ sym (line_more effect_line c.args.text.now c.args.effects.now c.loop-effect.effect-index effect c.loop-effect-test.true c.effect-item.is)
