use Rattle.space_tests.proofs.Moving.{last_valid, moves_pop, moves_trans}
use Rattle.space_tests.proofs.pairs.give_back.Goals as goal

pub forget_pair-requires-clause-left : goal.forget_pair-requires-clause-left
forget_pair-requires-clause-left g c = (last_valid c.pairs.pairs.items c.pop.new.self.items c.in-Some.pair c.in-Some.ensures.items c.pairs.invariant.kept).0

pub forget_pair-requires-clause-right : goal.forget_pair-requires-clause-right
forget_pair-requires-clause-right g c = (last_valid c.pairs.pairs.items c.pop.new.self.items c.in-Some.pair c.in-Some.ensures.items c.pairs.invariant.kept).1

pub pairs-preserved : goal.pairs-preserved
pairs-preserved g c = moves_trans c.pairs.invariant (moves_pop c.pairs.pairs.items c.pop.new.self.items c.in-Some.pair c.in-Some.ensures.items c.pairs.invariant.kept c.forget_pair.ensures.left c.forget_pair.ensures.right)
