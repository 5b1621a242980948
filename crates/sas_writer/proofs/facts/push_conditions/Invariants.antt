use Rattle.std.proofs.Common.{◌≡◌, ◌++◌, take}
use Rattle.std.specs.List.{flat_map}
use Rattle.sas_writer.specs.Spelling.{condition}
use Rattle.sas_writer.proofs.facts.push_conditions.Given as goal

abbrev pub invariant-loop-fact : goal.invariant-loop-fact
invariant-loop-fact l = l.text ≡ l.initial.text ++ flat_map condition (take l.fact-index l.facts)
