use Rattle.bidirectional.proofs.Advancing.{goes_stays}
use Rattle.search_tests.proofs.listing.cuts_up_to.Goals as goal

pub add_cuts-requires-clause-both : goal.add_cuts-requires-clause-both
add_cuts-requires-clause-both g c = (goes_stays (g.S.Space.view c.args.space.now) (g.S.Space.view c.costs.space) c.args.both.now c.requires.both c.costs.invariant).both
