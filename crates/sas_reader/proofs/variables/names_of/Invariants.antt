use Rattle.std.proofs.Common.{◌≡◌, ◌-◌}
use Rattle.line_grammar.specs.Reading.{many_at}
use Rattle.line_grammar.proofs.Loop.{with_front}
use Rattle.sas_reader.specs.Reading.{name_at, kept}
use Rattle.sas_reader.proofs.variables.names_of.Given as goal

abbrev pub invariant-loop : goal.invariant-loop
invariant-loop l = with_front l.names (many_at name_at kept (l.count - l.counter) tt l.rest) ≡ many_at name_at kept l.count tt l.fn.lines
