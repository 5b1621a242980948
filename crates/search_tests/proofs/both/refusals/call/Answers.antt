use Rattle.bidirectional.proofs.Advancing.{goes_trans}
use Rattle.search_tests.proofs.both.refusals.call.Goals as goal

pub returns-in-Err : goal.returns-in-Err
returns-in-Err g c =
    let view = g.S.Space.view in
    goes_trans (view c.args.space.now) (view c.three_calls.new.space) (view c.stays_refused.new.space) c.args.both.now c.three_calls.new.both c.stays_refused.new.both c.three_calls.ensures c.stays_refused.ensures
