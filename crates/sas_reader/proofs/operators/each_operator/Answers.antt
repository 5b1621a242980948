use Rattle.std.proofs.lemmas.Result.{err_from_is_err_and}
use Rattle.line_grammar.specs.Reading.{many_at}
use Rattle.line_grammar.proofs.Loop.{goes_on, ends_so, is_done}
use Rattle.sas_reader.specs.Reading.{operator_at, kept}
use Rattle.sas_reader.proofs.operators.each_operator.Goals as goal

pub returns-in_err-operator : goal.returns-in_err-operator
returns-in_err-operator c =
    let p = err_from_is_err_and c.from_residual.result c.from_residual.ensures.1 in
    rw (p.1, p.2) (ends_so (operator_at c.args.variables.now c.args.most) kept c.loop.operators c.args.count
    c.loop.counter tt c.loop.rest (many_at (operator_at c.args.variables.now c.args.most) kept c.args.count tt
    c.args.lines) c.in_err-operator.field-0.0 c.loop-test.true c.in_err-operator.ensures c.loop.invariant)

pub loop-preserved : goal.loop-preserved
loop-preserved c = rw c.in_ok-push.ensures.ok (goes_on (operator_at c.args.variables.now c.args.most) kept
    c.loop.operators c.args.count c.loop.counter tt c.loop.rest
    (many_at (operator_at c.args.variables.now c.args.most) kept c.args.count tt c.args.lines)
    c.in_ok-operator.operator c.in_ok-operator.after c.loop-test.true c.in_ok-operator.ensures c.loop.invariant)

pub returns : goal.returns
returns c = is_done (operator_at c.args.variables.now c.args.most) kept c.loop.operators c.args.count c.loop.counter
    tt c.loop.rest (many_at (operator_at c.args.variables.now c.args.most) kept c.args.count tt c.args.lines)
    c.loop-test.false c.loop.invariant
