use Rattle.std.proofs.lemmas.Result.{err_from_is_err_and}
use Rattle.line_grammar.specs.Reading.{many_at}
use Rattle.line_grammar.proofs.Loop.{goes_on, ends_so, is_done}
use Rattle.sas_reader.specs.Reading.{rule_at, kept}
use Rattle.sas_reader.proofs.rules.each_rule.Goals as goal

pub returns-in_err-rule : goal.returns-in_err-rule
returns-in_err-rule c =
    let p = err_from_is_err_and c.from_residual.result c.from_residual.ensures.1 in
    rw (p.1, p.2) (ends_so (rule_at c.args.variables.now c.args.defaults.now) kept c.loop.rules c.args.count
    c.loop.counter tt c.loop.rest (many_at (rule_at c.args.variables.now c.args.defaults.now) kept c.args.count
    tt c.args.lines) c.in_err-rule.field-0.0 c.loop-test.true c.in_err-rule.ensures c.loop.invariant)

pub loop-preserved : goal.loop-preserved
loop-preserved c = rw c.in_ok-push.ensures.ok (goes_on (rule_at c.args.variables.now c.args.defaults.now) kept
    c.loop.rules c.args.count c.loop.counter tt c.loop.rest
    (many_at (rule_at c.args.variables.now c.args.defaults.now) kept c.args.count tt c.args.lines) c.in_ok-rule.rule
    c.in_ok-rule.after c.loop-test.true c.in_ok-rule.ensures c.loop.invariant)

pub returns : goal.returns
returns c = is_done (rule_at c.args.variables.now c.args.defaults.now) kept c.loop.rules c.args.count c.loop.counter
    tt c.loop.rest (many_at (rule_at c.args.variables.now c.args.defaults.now) kept c.args.count tt c.args.lines)
    c.loop-test.false c.loop.invariant
