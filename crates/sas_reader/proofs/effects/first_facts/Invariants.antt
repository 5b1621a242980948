use Rattle.std.proofs.Common.{◌≡◌, ◌-◌}
use Rattle.sas_reader.specs.Numbers.{numbers_of}
use Rattle.sas_reader.proofs.EffectLines.{after_facts, conds_in}
use Rattle.sas_reader.proofs.effects.first_facts.Given as goal

abbrev pub invariant-loop : goal.invariant-loop
invariant-loop l = after_facts l.facts (conds_in l.variables (l.count - l.counter) (numbers_of l.rest)) ≡ conds_in l.variables l.count (numbers_of l.line)
