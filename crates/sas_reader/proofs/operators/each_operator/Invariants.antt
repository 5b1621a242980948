use Rattle.std.proofs.Common.{◌≡◌, ◌-◌}
use Rattle.line_grammar.specs.Reading.{many_at}
use Rattle.line_grammar.proofs.Loop.{with_front}
use Rattle.sas_reader.specs.Reading.{operator_at, kept}
use Rattle.sas_reader.proofs.operators.each_operator.Given as goal

abbrev pub invariant-loop : goal.invariant-loop
invariant-loop l = with_front l.operators (many_at (operator_at l.variables l.most) kept (l.count - l.counter) tt
    l.rest) ≡ many_at (operator_at l.variables l.most) kept l.count tt l.fn.lines
