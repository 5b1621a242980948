use Rattle.std.proofs.Common.{◌≡◌, ◌-◌, length}
use Rattle.line_grammar.specs.Reading.{many_at}
use Rattle.line_grammar.proofs.Loop.{with_front}
use Rattle.sas_reader.specs.Reading.{initial_value_at, next_place, initial_at}
use Rattle.sas_reader.proofs.state.initial_of.Given as goal

abbrev pub invariant-loop-var : goal.invariant-loop-var
invariant-loop-var l = with_front l.values (many_at (initial_value_at l.variables) next_place (length l.variables - l.var)
    l.var l.rest) ≡ initial_at l.variables l.fn.lines
