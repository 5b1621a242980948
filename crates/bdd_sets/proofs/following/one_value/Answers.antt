use Rattle.std.proofs.Common.{refl, arith}
use Rattle.bdd_sets.proofs.Children.{spelled_more, spelled_all, small_more}
use Rattle.bdd_sets.proofs.following.one_value.Goals as goal

pub bits-preserved : goal.bits-preserved
bits-preserved c = record {
  known = c.in_ok-is_set.ensures.known;
  small = rw c.with_bit-value.ensures (small_more c.bits.value c.bits.bit c.in_ok-is_set.is_set c.bits.invariant.small);
  told = λ b m. (
      let i = c.bits.invariant.told b m in
      let t = c.in_ok-is_set.ensures.only b i.0 in (
        t.1,
        rw c.with_bit-value.ensures (spelled_more b c.args.block.first c.args.block.width c.bits.bit c.bits.value
            _ c.in_ok-is_set.is_set c.bits-test.true refl t.0 i.1),
      ));
}

pub returns-clause-one : goal.returns-clause-one
returns-clause-one c b m =
    let i = c.bits.invariant.told b m in
    let most = c.bits.auto.bit-end in
    (spelled_all b c.args.block.first c.args.block.width c.bits.bit c.bits.value (omega (arith, most, c.bits-test.false)) i.1, i.0)
