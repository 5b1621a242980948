use Rattle.bidirectional.proofs.Advancing.{goes_stays}
use Rattle.search_tests.proofs.telling.cuts_once_settled.Goals as goal

pub all_cuts-requires-clause-both : goal.all_cuts-requires-clause-both
all_cuts-requires-clause-both g c =
    let view = g.S.Space.view in
    (goes_stays (view c.settle.new.space) (view c.first_cuts.new.space) c.settle.new.self c.settle.ensures.goes_on.both c.first_cuts.ensures).both

pub give_back-requires : goal.give_back-requires
give_back-requires g c =
    let view = g.S.Space.view in
    let first = goes_stays (view c.settle.new.space) (view c.first_cuts.new.space) c.settle.new.self c.settle.ensures.goes_on.both c.first_cuts.ensures in
    (goes_stays (view c.first_cuts.new.space) (view c.all_cuts.new.space) c.settle.new.self first.both c.all_cuts.ensures).both
