use Rattle.std.proofs.Common.{◌≡◌, ◌++◌, take, map}
use Rattle.sas_writer.specs.Spelling.{text_of, effect_line}
use Rattle.sas_writer.proofs.operators.push_each_effect.Given as goal

abbrev pub invariant-loop-effect : goal.invariant-loop-effect
invariant-loop-effect l = l.text ≡ l.initial.text ++ text_of (map effect_line (take l.effect-index l.effects))
