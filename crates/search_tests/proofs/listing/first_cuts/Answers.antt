use Rattle.bidirectional.proofs.Advancing.{goes_stays}
use Rattle.search_tests.proofs.listing.first_cuts.Goals as goal

pub next_cut-requires-clause-both : goal.next_cut-requires-clause-both
next_cut-requires-clause-both g c = (goes_stays (g.S.Space.view c.args.space.now) (g.S.Space.view c.cuts.space) c.args.both.now c.requires.both c.cuts.invariant).both
