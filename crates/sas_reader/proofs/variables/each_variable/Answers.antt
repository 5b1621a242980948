use Rattle.std.proofs.lemmas.Result.{err_from_is_err_and}
use Rattle.line_grammar.specs.Reading.{many_at}
use Rattle.line_grammar.proofs.Loop.{goes_on, ends_so, is_done}
use Rattle.sas_reader.specs.Reading.{variable_at, used_after}
use Rattle.sas_reader.proofs.VariableSection.{variable_read}
use Rattle.sas_reader.proofs.variables.each_variable.Goals as goal

pub returns-in_err-variable : goal.returns-in_err-variable
returns-in_err-variable c =
    let p = err_from_is_err_and c.from_residual.result c.from_residual.ensures.1 in
    rw (p.1, p.2) (ends_so variable_at used_after c.loop.variables c.args.count c.loop.counter c.loop.used c.loop.rest
    (many_at variable_at used_after c.args.count 0 c.args.lines) c.in_err-variable.field-0.0 c.loop-test.true
    c.in_err-variable.ensures c.loop.invariant.so_far)

pub used_after-used-requires-clause-few : goal.used_after-used-requires-clause-few
used_after-used-requires-clause-few c = (variable_read c.loop.used c.loop.rest c.in_ok-variable.after
    c.in_ok-variable.variable c.loop.invariant.small c.in_ok-variable.ensures).1

pub used_after-used-requires-clause-fits : goal.used_after-used-requires-clause-fits
used_after-used-requires-clause-fits c = (variable_read c.loop.used c.loop.rest c.in_ok-variable.after
    c.in_ok-variable.variable c.loop.invariant.small c.in_ok-variable.ensures).2

pub loop-preserved : goal.loop-preserved
loop-preserved c = record {
  small = (let f = (variable_read c.loop.used c.loop.rest c.in_ok-variable.after c.in_ok-variable.variable
      c.loop.invariant.small c.in_ok-variable.ensures).2 in rw c.used_after-used.ensures f);
  so_far = rw (c.in_ok-push.ensures.ok, c.used_after-used.ensures)
      (goes_on variable_at used_after c.loop.variables c.args.count c.loop.counter c.loop.used c.loop.rest
      (many_at variable_at used_after c.args.count 0 c.args.lines) c.in_ok-variable.variable c.in_ok-variable.after
      c.loop-test.true c.in_ok-variable.ensures c.loop.invariant.so_far);
}

pub returns : goal.returns
returns c = is_done variable_at used_after c.loop.variables c.args.count c.loop.counter c.loop.used c.loop.rest
    (many_at variable_at used_after c.args.count 0 c.args.lines) c.loop-test.false c.loop.invariant.so_far
