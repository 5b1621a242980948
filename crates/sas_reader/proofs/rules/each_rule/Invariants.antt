use Rattle.std.proofs.Common.{◌≡◌, ◌-◌}
use Rattle.line_grammar.specs.Reading.{many_at}
use Rattle.line_grammar.proofs.Loop.{with_front}
use Rattle.sas_reader.specs.Reading.{rule_at, kept}
use Rattle.sas_reader.proofs.rules.each_rule.Given as goal

abbrev pub invariant-loop : goal.invariant-loop
invariant-loop l = with_front l.rules (many_at (rule_at l.variables l.defaults) kept (l.count - l.counter) tt l.rest)
    ≡ many_at (rule_at l.variables l.defaults) kept l.count tt l.fn.lines
