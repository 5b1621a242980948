use Rattle.std.proofs.lemmas.Result.{err_from_is_err_and}
use Rattle.line_grammar.proofs.Loop.{goes_on, ends_so, is_done}
use Rattle.plan_out.specs.Reading.{step_at, steps_at, kept_state}
use Rattle.plan_out.proofs.rows.names_of.Goals as goal

pub returns-in_err-name : goal.returns-in_err-name
returns-in_err-name c =
    let p = err_from_is_err_and c.from_residual.result c.from_residual.ensures.1 in
    rw (p.1, p.2) (ends_so step_at kept_state c.loop.names c.args.count c.loop.counter tt c.loop.rest
    (steps_at c.args.count c.args.lines) c.in_err-name.field-0.0 c.loop-test.true
    c.in_err-name.ensures c.loop.invariant)

pub loop-preserved : goal.loop-preserved
loop-preserved c = rw c.in_ok-push.ensures.ok (goes_on step_at kept_state c.loop.names c.args.count c.loop.counter tt
    c.loop.rest (steps_at c.args.count c.args.lines) c.in_ok-name.name c.in_ok-name.after c.loop-test.true
    c.in_ok-name.ensures c.loop.invariant)

pub returns : goal.returns
returns c = is_done step_at kept_state c.loop.names c.args.count c.loop.counter tt c.loop.rest
    (steps_at c.args.count c.args.lines) c.loop-test.false c.loop.invariant
