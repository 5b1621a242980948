use Rattle.std.proofs.lemmas.Result.{err_from_is_err_and}
use Rattle.line_grammar.specs.Reading.{many_at}
use Rattle.line_grammar.proofs.Loop.{goes_on, ends_so, is_done}
use Rattle.sas_reader.specs.Reading.{name_at, kept}
use Rattle.sas_reader.proofs.variables.names_of.Goals as goal

pub returns-in_err-name : goal.returns-in_err-name
returns-in_err-name c =
    let p = err_from_is_err_and c.from_residual.result c.from_residual.ensures.1 in
    rw (p.1, p.2) (ends_so name_at kept c.loop.names c.args.count c.loop.counter tt c.loop.rest
    (many_at name_at kept c.args.count tt c.args.lines) c.in_err-name.field-0.0 c.loop-test.true
    c.in_err-name.ensures c.loop.invariant)

pub loop-preserved : goal.loop-preserved
loop-preserved c = rw c.in_ok-push.ensures.ok (goes_on name_at kept c.loop.names c.args.count c.loop.counter tt
    c.loop.rest (many_at name_at kept c.args.count tt c.args.lines) c.in_ok-name.name c.in_ok-name.after
    c.loop-test.true c.in_ok-name.ensures c.loop.invariant)

pub returns : goal.returns
returns c = is_done name_at kept c.loop.names c.args.count c.loop.counter tt c.loop.rest
    (many_at name_at kept c.args.count tt c.args.lines) c.loop-test.false c.loop.invariant
