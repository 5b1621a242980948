use Rattle.std.proofs.lemmas.Result.{err_from_is_err_and}
use Rattle.line_grammar.specs.Reading.{many_at}
use Rattle.line_grammar.proofs.Loop.{goes_on, ends_so, is_done}
use Rattle.sas_reader.specs.Reading.{group_at, kept}
use Rattle.sas_reader.proofs.mutexes.each_group.Goals as goal

pub returns-in_err-group : goal.returns-in_err-group
returns-in_err-group c =
    let p = err_from_is_err_and c.from_residual.result c.from_residual.ensures.1 in
    rw (p.1, p.2) (ends_so (group_at c.args.variables.now) kept c.loop.groups c.args.count c.loop.counter tt
    c.loop.rest (many_at (group_at c.args.variables.now) kept c.args.count tt c.args.lines)
    c.in_err-group.field-0.0 c.loop-test.true c.in_err-group.ensures c.loop.invariant)

pub loop-preserved : goal.loop-preserved
loop-preserved c = rw c.in_ok-push.ensures.ok (goes_on (group_at c.args.variables.now) kept c.loop.groups c.args.count
    c.loop.counter tt c.loop.rest (many_at (group_at c.args.variables.now) kept c.args.count tt c.args.lines)
    c.in_ok-group.group c.in_ok-group.after c.loop-test.true c.in_ok-group.ensures c.loop.invariant)

pub returns : goal.returns
returns c = is_done (group_at c.args.variables.now) kept c.loop.groups c.args.count c.loop.counter tt c.loop.rest
    (many_at (group_at c.args.variables.now) kept c.args.count tt c.args.lines) c.loop-test.false c.loop.invariant
