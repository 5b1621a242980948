use Rattle.std.proofs.Common.{◌<◌, ◌^◌, All, length, ◌∙◌, sym, subst, arith}
use Rattle.scripted_plans.proofs.Telling.{took_next}
use Rattle.scripted_plans.proofs.endless.Endless.take.Goals as goal

pub returns-clause-some : goal.returns-clause-some
returns-clause-some c =
    let plans = c.args.self.now.plans.items in
    let next = c.args.self.now.next in
    let copied = c.in_ok-plan.ensures in
    let same = c.of.ensures ∙ copied.same in
    let new = rw c.if-not-is_new.false at c.is_new.ensures in
    let within : next < length plans = omega (arith, c.if-self-len.false, c.len.ensures, c.args.self.now.plans.ok.0) in
    took_next plans next c.index.result.now within
    (same ∙ c.as_slice-operators.ensures ∙ c.index.ensures)
    (subst (All (λ a. a < 2 ^ 32)) (sym c.of.ensures) copied.fit) (c.in_ok-key.ensures.same ∙ sym same) new.1 new.0
