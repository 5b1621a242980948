use Rattle.std.proofs.Common.{◌≡◌, ◌-◌}
use Rattle.line_grammar.proofs.Loop.{with_front}
use Rattle.plan_out.specs.Reading.{steps_at}
use Rattle.plan_out.proofs.rows.names_of.Given as goal

abbrev pub invariant-loop : goal.invariant-loop
invariant-loop l = with_front l.names (steps_at (l.count - l.counter) l.rest) ≡ steps_at l.count l.fn.lines
