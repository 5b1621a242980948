use Rattle.bidirectional.proofs.Advancing.{goes_trans}
use Rattle.search_tests.proofs.both.refusals.is_refused.Goals as goal

pub returns-then-settled : goal.returns-then-settled
returns-then-settled g c =
    let view = g.S.Space.view in
    goes_trans (view c.args.space.now) (view c.settle.new.space) (view c.advance.new.space) c.args.both.now c.settle.new.self c.advance.new.self c.settle.ensures.goes_on c.advance.ensures.goes_on

pub returns-else-settled : goal.returns-else-settled
returns-else-settled g c =
    let view = g.S.Space.view in
    goes_trans (view c.args.space.now) (view c.settle.new.space) (view c.advance.new.space) c.args.both.now c.settle.new.self c.advance.new.self c.settle.ensures.goes_on c.advance.ensures.goes_on
