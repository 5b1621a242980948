use Rattle.std.proofs.Common.{◌∙◌, sym, arith}
use Rattle.std.proofs.lemmas.Result.{err_from_is_err_and}
use Rattle.sas_reader.proofs.Blanks.{blanks_at, blank_goes, blank_ends, blanks_done}
use Rattle.sas_reader.proofs.reading.blanks_of.Goals as goal

pub returns-in_err-rest : goal.returns-in_err-rest
returns-in_err-rest c =
    let p = err_from_is_err_and c.from_residual.result c.from_residual.ensures.1 in
    rw (p.1, p.2) (blank_ends c.loop.rest c.in_err-rest.field-0.0 (blanks_at c.args.lines) (omega arith) c.in_err-rest.ensures c.loop.invariant.so_far)

pub loop-preserved : goal.loop-preserved
loop-preserved c = (let k = blank_goes c.loop.rest c.in_ok-rest.rest c.in_ok-rest.ensures in record {
  left = omega (arith, k.1);
  so_far = sym k.0 ∙ c.loop.invariant.so_far;
})

pub returns : goal.returns
returns c = blanks_done c.loop.rest (blanks_at c.args.lines) (omega arith) c.loop.invariant.so_far
