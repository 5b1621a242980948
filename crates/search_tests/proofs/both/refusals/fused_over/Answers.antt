use Rattle.bidirectional.proofs.Advancing.{goes_stays}
use Rattle.search_tests.proofs.both.refusals.fused_over.Goals as goal

pub cuts_stand-requires : goal.cuts_stand-requires
cuts_stand-requires g c =
    let view = g.S.Space.view in
    (goes_stays (view c.call-called.new.space.inner) (view c.layers_stand.new.space.inner) c.call-called.new.both c.call-called.ensures.both c.layers_stand.ensures).both

pub give_back-requires : goal.give_back-requires
give_back-requires g c =
    let view = g.S.Space.view in
    let first = goes_stays (view c.call-called.new.space.inner) (view c.layers_stand.new.space.inner) c.call-called.new.both c.call-called.ensures.both c.layers_stand.ensures in
    (goes_stays (view c.layers_stand.new.space.inner) (view c.cuts_stand.new.space.inner) c.call-called.new.both first.both c.cuts_stand.ensures).both
