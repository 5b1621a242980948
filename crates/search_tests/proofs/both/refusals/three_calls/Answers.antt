use Rattle.bidirectional.proofs.Advancing.{goes_stays, goes_trans}
use Rattle.search_tests.proofs.both.refusals.three_calls.Goals as goal

pub advance-requires : goal.advance-requires
advance-requires g c =
    let view = g.S.Space.view in
    (goes_stays (view c.settle.new.space) (view c.all_cuts.new.space) c.settle.new.self c.settle.ensures.goes_on.both c.all_cuts.ensures).both

pub returns-in_err-cuts : goal.returns-in_err-cuts
returns-in_err-cuts g c =
    let view = g.S.Space.view in
    goes_trans (view c.args.space.now) (view c.settle.new.space) (view c.all_cuts.new.space) c.args.both.now c.settle.new.self c.settle.new.self c.settle.ensures.goes_on (goes_stays (view c.settle.new.space) (view c.all_cuts.new.space) c.settle.new.self c.settle.ensures.goes_on.both c.all_cuts.ensures)

pub returns-in_err-next : goal.returns-in_err-next
returns-in_err-next g c =
    let view = g.S.Space.view in
    let listed = goes_trans (view c.args.space.now) (view c.settle.new.space) (view c.all_cuts.new.space) c.args.both.now c.settle.new.self c.settle.new.self c.settle.ensures.goes_on (goes_stays (view c.settle.new.space) (view c.all_cuts.new.space) c.settle.new.self c.settle.ensures.goes_on.both c.all_cuts.ensures) in
    goes_trans (view c.args.space.now) (view c.all_cuts.new.space) (view c.advance.new.space) c.args.both.now c.settle.new.self c.advance.new.self listed c.advance.ensures.goes_on

pub returns : goal.returns
returns g c =
    let view = g.S.Space.view in
    let listed = goes_trans (view c.args.space.now) (view c.settle.new.space) (view c.all_cuts.new.space) c.args.both.now c.settle.new.self c.settle.new.self c.settle.ensures.goes_on (goes_stays (view c.settle.new.space) (view c.all_cuts.new.space) c.settle.new.self c.settle.ensures.goes_on.both c.all_cuts.ensures) in
    goes_trans (view c.args.space.now) (view c.all_cuts.new.space) (view c.advance.new.space) c.args.both.now c.settle.new.self c.advance.new.self listed c.advance.ensures.goes_on
