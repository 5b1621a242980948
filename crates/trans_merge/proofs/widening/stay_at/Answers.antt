use Rattle.std.proofs.Common.{◌∙◌, ◌||◌, Bool, ap, sym}
use Rattle.bdd_table.proofs.Adding.{ok_by}
use Rattle.bdd_table.proofs.Meaning.{means_true}
use Rattle.var_order.specs.Layout.{level_at}
use Rattle.transitions.specs.NextValues.{agree}
use Rattle.trans_merge.proofs.Among.{free_of}
use Rattle.trans_merge.proofs.widening.stay_at.Goals as goal

pub returns-then-free-clause-meaning : goal.returns-then-free-clause-meaning
returns-then-free-clause-meaning c = λ b.
    let p = c.args.place in
    let free = free_of c.args.own.now c.args.wide.now p c.is_among.result c.is_among-2.result c.is_among.ensures c.is_among-2.ensures in
    means_true c.args.ops.now c.table.ensures.reduced b ∙ sym (ap (λ (t : Bool). t || agree (b (level_at 0 p)) (b (level_at 1 p))) (sym free ∙ c.if-free.true))

pub returns-else-free-clause-meaning : goal.returns-else-free-clause-meaning
returns-else-free-clause-meaning c = ok_by c.same_bit.result _ _ c.same_bit.ensures.meaning (λ id m b.
    let p = c.args.place in
    let free = free_of c.args.own.now c.args.wide.now p c.is_among.result c.is_among-2.result c.is_among.ensures c.is_among-2.ensures in
    m b ∙ sym (ap (λ (t : Bool). t || agree (b (level_at 0 p)) (b (level_at 1 p))) (sym free ∙ c.if-free.false)))
