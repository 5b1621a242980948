use Rattle.std.proofs.Common.{◌∙◌, ◌-◌, ◌&&◌, Bool, ap, sym, arith}
use Rattle.bdd_table.specs.Diagram.{means}
use Rattle.bdd_table.proofs.Adding.{ok_by}
use Rattle.bdd_table.proofs.Meaning.{means_true}
use Rattle.var_order.specs.Layout.{level_at}
use Rattle.transitions.specs.NextValues.{agree}
use Rattle.transitions.proofs.Asking.{stays_none, stays_more}
use Rattle.transitions.proofs.effects.+stays.Goals as goal

pub returns-then-width-eq0-clause-meaning : goal.returns-then-width-eq0-clause-meaning
returns-then-width-eq0-clause-meaning t c = λ b. means_true c.args.ops.now c.table.ensures.reduced b
    ∙ sym (stays_none b c.args.place c.args.width c.if-width-eq0.true)

pub returns-clause-meaning : goal.returns-clause-meaning
returns-clause-meaning t c = ok_by c.conj.result _ _ c.conj.ensures.meaning (λ id m b.
    m b ∙ ap (λ (x : Bool). x && means c.same_bit.new.ops c.in_ok-rest.rest b) (c.in_ok-first.ensures.meaning b)
    ∙ ap (λ (x : Bool). agree (b (level_at 0 c.args.place)) (b (level_at 1 c.args.place)) && x)
    (c.in_ok-first.ensures.kept.meaning c.in_ok-rest.rest b c.in_ok-rest.ensures.known
    ∙ c.in_ok-rest.ensures.meaning b)
    ∙ sym (stays_more b c.args.place c.args.width (c.args.width - 1) (omega (arith, c.if-width-eq0.false))))
