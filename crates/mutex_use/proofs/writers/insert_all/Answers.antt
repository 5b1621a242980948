use Rattle.std.proofs.Common.{inl, inr, get_or}
use Rattle.std.specs.Ordering.{nat_cmp}
use Rattle.std.specs.BTreeSet.{contains}
use Rattle.std.proofs.lemmas.List.{get_or_default}
use Rattle.mutex_use.proofs.Lists.{none, whole}
use Rattle.mutex_use.proofs.Noting.{inserted_next}
use Rattle.mutex_use.proofs.writers.insert_all.Goals as goal

pub numbers-init : goal.numbers-init
numbers-init c n = ((λ h. inl h), (λ h. elim h [ inl o ↦ o | inr k ↦ absurd (none c.args.numbers.now n k) ]))

pub numbers-preserved : goal.numbers-preserved
numbers-preserved c n =
    let x = get_or c.args.numbers.now c.numbers.i 0 in
    inserted_next c.args.numbers.now c.numbers.i x n (contains nat_cmp c.args.set.now n)
    (contains nat_cmp c.numbers.set n) (contains nat_cmp c.insert.new.self n) c.numbers-test.true
    (get_or_default c.args.numbers.now c.numbers.i x 0 c.numbers-test.true) (c.in_ok-insert.ensures.updates.0 n) (c.numbers.invariant n)

pub returns : goal.returns
returns c n =
    let w = whole c.args.numbers.now c.numbers.i n c.numbers-test.false in
    let i = c.numbers.invariant n in (
      (λ h. elim (i.0 h) [ inl o ↦ inl o | inr k ↦ inr (w.0 k) ]),
      (λ h. i.1 (elim h [ inl o ↦ inl o | inr k ↦ inr (w.1 k) ])),
    )
