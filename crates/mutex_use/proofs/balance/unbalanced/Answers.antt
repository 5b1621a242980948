use Rattle.std.proofs.Common.{ℕ, ◌+◌, get_or, sym, ◌∙◌, ap, subst, Vec, Global}
use Rattle.std.proofs.lemmas.List.{get_or_default}
use Rattle.mutex_use.proofs.Balancing.{AreLookedAt, looked_none, looked_more, looked_same, looked_end}
use Rattle.mutex_use.proofs.balance.unbalanced.Goals as goal
use Rattle.mutex_use.proofs.balance.unbalanced.Goals.{then-may_break+in_ok-push, else-may_break}

pub among-init : goal.among-init
among-init c = looked_none c.args.operators.now c.args.facts.now c.args.among.now c.new-left.result.items c.new-left.ensures.items

pub among-preserved : goal.among-preserved
among-preserved c =
    let operators = c.args.operators.now in
    let facts = c.args.facts.now in
    let among = c.args.among.now in
    let i = c.among.i in
    let x = get_or among i 0 in
    let lt = c.among-test.true in
    let here = get_or_default among i x 0 lt in
    let old = c.among.left.items in
    elim c.if-may_break.branch [
      | then-may_break+in_ok-push w ↦ subst (AreLookedAt operators facts among (i + 1))
          (sym (ap (λ (v : Vec ℕ Global). v.items) w.left-is ∙ w.in_ok-push.ensures.items))
          (looked_more operators facts among old i x lt here c.among.invariant (c.requires i 0 lt))
      | else-may_break w ↦ subst (AreLookedAt operators facts among (i + 1)) (sym (ap (λ (v : Vec ℕ Global). v.items) w.left-is))
          (looked_same operators facts among old i x lt here c.among.invariant (c.may_break.ensures w.if-may_break.false))
    ]

pub returns : goal.returns
returns c = looked_end c.args.operators.now c.args.facts.now c.args.among.now c.among.left.items c.among.i c.among-test.false c.among.invariant
