use Rattle.std.proofs.Common.{length}
use Rattle.std.proofs.lemmas.Result.{err_from_is_err_and}
use Rattle.line_grammar.proofs.Loop.{goes_on, ends_so, is_done}
use Rattle.sas_reader.specs.Reading.{initial_value_at, next_place, initial_at}
use Rattle.sas_reader.proofs.state.initial_of.Goals as goal

pub returns-in_err-value : goal.returns-in_err-value
returns-in_err-value c =
    let p = err_from_is_err_and c.from_residual.result c.from_residual.ensures.1 in
    rw (p.1, p.2) (ends_so (initial_value_at c.args.variables.now) next_place c.loop-var.values (length c.args.variables.now)
    c.loop-var.var c.loop-var.var c.loop-var.rest (initial_at c.args.variables.now c.args.lines)
    c.in_err-value.field-0.0 c.loop-var-test.true c.in_err-value.ensures c.loop-var.invariant)

pub loop-var-preserved : goal.loop-var-preserved
loop-var-preserved c = rw c.in_ok-push.ensures.ok (goes_on (initial_value_at c.args.variables.now) next_place
    c.loop-var.values (length c.args.variables.now) c.loop-var.var c.loop-var.var c.loop-var.rest
    (initial_at c.args.variables.now c.args.lines) c.in_ok-value.value c.in_ok-value.after c.loop-var-test.true
    c.in_ok-value.ensures c.loop-var.invariant)

pub returns : goal.returns
returns c = is_done (initial_value_at c.args.variables.now) next_place c.loop-var.values (length c.args.variables.now)
    c.loop-var.var c.loop-var.var c.loop-var.rest (initial_at c.args.variables.now c.args.lines)
    c.loop-var-test.false c.loop-var.invariant
