use Rattle.std.proofs.Common.{◌∙◌, refl}
use Rattle.bdd_sets.proofs.Children.{bit_is}
use Rattle.bdd_sets.proofs.following.follow.Goals as goal

pub bits-preserved : goal.bits-preserved
bits-preserved c = record {
  known = c.child_at-id.ensures.known;
  same = λ b is. c.child_at-id.ensures.same b (bit_is b c.args.block c.args.value c.bits.bit _ is c.bits-test.true refl) ∙ c.bits.invariant.same b is;
}
