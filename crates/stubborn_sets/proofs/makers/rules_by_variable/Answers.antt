use Rattle.std.proofs.Common.{ℕ, length, sym, subst, arith, ◌≡◌}
use Rattle.std.specs.List.{Contains}
use Rattle.symk_task.specs.declared.parts.Rule.{Rule}
use Rattle.stubborn_sets.specs.Kept.{LeavesOut, IsForOther, list_at}
use Rattle.stubborn_sets.proofs.KeptLaw.{rules_none, rules_more}
use Rattle.stubborn_sets.proofs.makers.rules_by_variable.Goals as goal

pub loop-number-init : goal.loop-number-init
loop-number-init c = rules_none c.args.rules.now (list_at c.new-lists.result) c.new-lists.ensures

pub loop-number-preserved : goal.loop-number-preserved
loop-number-preserved c =
    rules_more c.args.rules.now c.loop-number.number c.index-rules-number.result (list_at c.loop-number.lists)
    (list_at c.add.new.self) c.loop-number-test.true c.index-rules-number.is
    c.loop-number.invariant c.in_ok-add.ensures.adds
    (subst (λ (z : Rule). Contains (list_at c.add.new.self z.var) c.loop-number.number)
    (sym c.index-rules-number.is) c.in_ok-add.ensures.has)

pub returns : goal.returns
returns c = λ var.
    let end : c.loop-number.number ≡ length c.args.rules.now = omega (arith, c.loop-number-test.false, c.loop-number.auto.number-end) in
    subst (λ (n : ℕ). LeavesOut (IsForOther c.args.rules.now var) n (list_at c.loop-number.lists var)) end (c.loop-number.invariant var)
