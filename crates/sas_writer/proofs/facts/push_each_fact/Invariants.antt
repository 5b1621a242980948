use Rattle.std.proofs.Common.{◌≡◌, ◌++◌, take, map}
use Rattle.sas_writer.specs.Spelling.{text_of, fact_line}
use Rattle.sas_writer.proofs.facts.push_each_fact.Given as goal

abbrev pub invariant-loop-fact : goal.invariant-loop-fact
invariant-loop-fact l = l.text ≡ l.initial.text ++ text_of (map fact_line (take l.fact-index l.facts))
