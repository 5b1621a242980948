use Rattle.std.proofs.Common.{ℕ, IsTrue, get_or, below_more, subst}
use Rattle.std.proofs.lemmas.List.{get_or_default}
use Rattle.stubborn_sets.specs.Closing.{has_mark}
use Rattle.stubborn_sets.proofs.GrowingLaw.{adds_trans}
use Rattle.stubborn_sets.proofs.growing.Growing.add_all.Goals as goal

pub loop-number-preserved : goal.loop-number-preserved
loop-number-preserved c =
    let added = c.in_ok-add.ensures.adds in
    let numbers = c.args.numbers.now in
    let new = c.add.new.self.marks.items in
    record {
      adds = adds_trans c.args.self.now c.loop-number.self c.add.new.self c.loop-number.invariant.adds added;
      has = λ k d. below_more (λ k. IsTrue (has_mark new (get_or numbers k d))) c.loop-number.number-index
          (λ k lt. added.grows (get_or numbers k d) (c.loop-number.invariant.has k d lt))
          (subst (λ (z : ℕ). IsTrue (has_mark new z)) (get_or_default numbers c.loop-number.number-index 0 d c.loop-number-test.true) c.in_ok-add.ensures.has) k;
    }
