use Rattle.space_tests.proofs.Moving.{amid_at, moves_out}
use Rattle.space_tests.proofs.pairs.take_out.Goals as goal

pub forget_pair-requires-clause-left : goal.forget_pair-requires-clause-left
forget_pair-requires-clause-left g c = c.requires.kept.left.valid c.remove-pair.result.left (amid_at (λ p. p.left) c.args.pairs.now.items c.args.at c.remove-pair.result c.requires.at c.remove-pair.ensures.value)

pub forget_pair-requires-clause-right : goal.forget_pair-requires-clause-right
forget_pair-requires-clause-right g c = c.requires.kept.right.valid c.remove-pair.result.right (amid_at (λ p. p.right) c.args.pairs.now.items c.args.at c.remove-pair.result c.requires.at c.remove-pair.ensures.value)

pub returns-clause-moves : goal.returns-clause-moves
returns-clause-moves g c = moves_out c.args.pairs.now.items c.args.at c.remove-pair.result c.remove-pair.new.self.items c.requires.at c.remove-pair.ensures.value c.remove-pair.ensures.items c.requires.kept c.forget_pair.ensures.left c.forget_pair.ensures.right
