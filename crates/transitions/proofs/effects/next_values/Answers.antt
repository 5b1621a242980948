use Rattle.std.proofs.Common.{arith}
use Rattle.symk_task.specs.declared.parts.Effect.{Effect}
use Rattle.bdd_table.specs.Diagram.{means}
use Rattle.bdd_table.proofs.Meaning.{means_true}
use Rattle.axiom_layers.proofs.Raised.{roots_kept}
use Rattle.axiom_layers.proofs.RootValues.{keeps_on, keeps_itself}
use Rattle.transitions.specs.NextValues.{Arrives}
use Rattle.transitions.proofs.Asking.{arrives, arrived}
use Rattle.transitions.proofs.Gathering.{StandsAt, first_none, first_all, conj_more}
use Rattle.transitions.proofs.effects.next_values.Goals as goal

pub loop-effect-init : goal.loop-effect-init
loop-effect-init c =
    let task = c.args.task.now in
    let order = c.args.order.now in
    record {
      kept = keeps_itself c.args.ops.now;
      reduced = c.table.ensures.reduced;
      roots = c.requires.roots;
      known = (let k = c.table.ensures.reduced.constants in omega (arith, k));
      next = λ s b state code. (
        (λ h. first_none (λ (e : Effect). Arrives task order c.args.effects.now e.var s b) c.args.effects.now),
        (λ h. means_true c.args.ops.now c.table.ensures.reduced b),
      );
    }

pub loop-effect-preserved : goal.loop-effect-preserved
loop-effect-preserved c =
    let task = c.args.task.now in
    let order = c.args.order.now in
    let effects = c.args.effects.now in
    let inv = c.loop-effect.invariant in
    let it = c.in_ok-value.ensures in
    let at : StandsAt effects c.loop-effect.effect-index c.effect-item.result = record {
      within = c.loop-effect-test.true;
      is = c.effect-item.is;
    } in
    let kept = keeps_on c.loop-effect.ops c.next_value.new.ops c.conj.new.self it.kept c.in_ok-all.ensures.kept in
    record {
      kept = keeps_on c.args.ops.now c.loop-effect.ops c.conj.new.self inv.kept kept;
      reduced = c.in_ok-all.ensures.reduced;
      roots = roots_kept task order c.loop-effect.ops c.conj.new.self c.args.derived.now kept inv.roots;
      known = c.in_ok-all.ensures.known;
      next = λ s b state code.
          let value = means c.next_value.new.ops c.in_ok-value.value b in
          let meaning = it.meaning s b state code in
          conj_more (λ (e : Effect). Arrives task order effects e.var s b)
          (means c.loop-effect.ops c.loop-effect.all b) (means c.next_value.new.ops c.loop-effect.all b) value (means c.conj.new.self c.in_ok-all.all b)
          at (inv.next s b state code) (
            (λ h. arrives task order effects c.effect-item.result.var s b value meaning h),
            (λ h. arrived task order effects c.effect-item.result.var s b value meaning h),
          )
          (c.in_ok-all.ensures.meaning b) (it.kept.meaning c.loop-effect.all b inv.known);
    }

pub returns-clause-meaning : goal.returns-clause-meaning
returns-clause-meaning c = λ s b state code.
    let P = λ (e : Effect). Arrives c.args.task.now c.args.order.now c.args.effects.now e.var s b in
    let at = c.loop-effect.invariant.next s b state code in (
      (λ h. first_all P c.args.effects.now c.loop-effect.effect-index c.loop-effect-test.false (at.0 h)),
      (λ all. at.1 (λ k d lt. all k d (let far = c.loop-effect.auto.effect-index-end in omega (arith, far, lt)))),
    )
