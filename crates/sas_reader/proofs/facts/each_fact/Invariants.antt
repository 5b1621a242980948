use Rattle.std.proofs.Common.{◌≡◌, ◌-◌}
use Rattle.line_grammar.specs.Reading.{many_at}
use Rattle.line_grammar.proofs.Loop.{with_front}
use Rattle.sas_reader.specs.Reading.{fact_at, kept}
use Rattle.sas_reader.proofs.facts.each_fact.Given as goal

abbrev pub invariant-loop : goal.invariant-loop
invariant-loop l = with_front l.facts (many_at (fact_at l.variables) kept (l.count - l.counter) tt l.rest) ≡ many_at
    (fact_at l.variables) kept l.count tt l.fn.lines
