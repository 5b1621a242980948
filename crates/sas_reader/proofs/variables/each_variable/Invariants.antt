use Rattle.std.proofs.Common.{◌≡◌, ◌-◌, ◌≤◌}
use Rattle.line_grammar.specs.Reading.{many_at}
use Rattle.line_grammar.proofs.Loop.{with_front}
use Rattle.sas_reader.specs.Reading.{variable_at, used_after}
use Rattle.sas_reader.proofs.variables.each_variable.Given as goal

abbrev pub invariant-loop : goal.invariant-loop
invariant-loop l = record {
  small : l.used ≤ 65536;
  so_far : with_front l.variables (many_at variable_at used_after (l.count - l.counter) l.used l.rest) ≡ many_at variable_at used_after l.count 0 l.fn.lines;
}
