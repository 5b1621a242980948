use Rattle.bidirectional.proofs.Advancing.{goes_stays}
use Rattle.search_tests.proofs.telling.list_cuts.Goals as goal

pub give_back-requires : goal.give_back-requires
give_back-requires g c =
    let view = g.S.Space.view in
    (goes_stays (view c.settle.new.space) (view c.cuts_up_to.new.space) c.settle.new.self c.settle.ensures.goes_on.both c.cuts_up_to.ensures).both
