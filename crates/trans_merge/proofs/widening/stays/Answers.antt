use Rattle.std.proofs.Common.{arith}
use Rattle.var_order.specs.Layout.{bits}
use Rattle.bdd_sets.proofs.Conjunctions.{conj_none, conj_more}
use Rattle.bdd_sets.proofs.Spelled.{through}
use Rattle.trans_merge.specs.Widened.{stays_at}
use Rattle.trans_merge.proofs.Staying.{all_stay}
use Rattle.trans_merge.proofs.widening.stays.Goals as goal

pub loop-place-init : goal.loop-place-init
loop-place-init c = conj_none (stays_at c.args.own.now c.args.wide.now) c.args.ops.now (bits c.args.order.now)
    c.bits-bits.result c.table.ensures.reduced c.bits-bits.ensures.value

pub loop-place-preserved : goal.loop-place-preserved
loop-place-preserved c =
    conj_more c.loop-place.invariant
    (record {
      tested_kept = c.in_ok-stay.ensures.kept;
      tested_known = c.in_ok-stay.ensures.known;
      tested = c.in_ok-stay.ensures.meaning;
      joined_kept = c.in_ok-all.ensures.kept;
      reduced = c.in_ok-all.ensures.reduced;
      known = c.in_ok-all.ensures.known;
      joined = c.in_ok-all.ensures.meaning;
    })
    (let t = c.loop-place-test.true in omega (arith, t))
    (let t = c.loop-place-test.true in let a = c.loop-place.auto.place in
    let e = c.bits-bits.ensures.value in omega (arith, t, a, e))

pub returns-clause-meaning : goal.returns-clause-meaning
returns-clause-meaning c = λ b. through (c.loop-place.invariant.meaning b)
    (all_stay c.args.order.now c.args.own.now c.args.wide.now b c.loop-place.place c.loop-place-test.false)
