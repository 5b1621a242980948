use Rattle.std.proofs.Common.{ℕ, get_or, subst, below_more}
use Rattle.std.specs.List.{Contains}
use Rattle.std.proofs.lemmas.List.Elements.{at_read}
use Rattle.symk_task.specs.declared.parts.Effect.{Effect}
use Rattle.stubborn_sets.specs.Kept.{list_at, number_of, given_by}
use Rattle.stubborn_sets.proofs.ListsLaw.{adds_trans}
use Rattle.stubborn_sets.proofs.makers.add_effects.Goals as goal

pub loop-effect-preserved : goal.loop-effect-preserved
loop-effect-preserved c =
    let added = c.in_ok-add.ensures.adds in
    let P : Effect → Type 0 = λ e. Contains (list_at c.add.new.self (number_of c.args.firsts.now (given_by e))) c.args.op in
    let here : P c.effect-item.result = subst (λ (z : ℕ). Contains (list_at c.add.new.self z) c.args.op) c.number_of.ensures c.in_ok-add.ensures.has in
    record {
      has = λ k d. below_more (λ k. P (get_or c.args.effects.now k d)) c.loop-effect.effect-index
          (λ k lt. added.keeps (number_of c.args.firsts.now (given_by (get_or c.args.effects.now k d))) c.args.op (c.loop-effect.invariant.has k d lt))
          (at_read c.args.effects.now P c.loop-effect.effect-index c.effect-item.result c.loop-effect-test.true c.effect-item.is here d) k;
      adds = adds_trans (list_at c.args.given.now) (list_at c.loop-effect.given) (list_at c.add.new.self) c.args.op c.loop-effect.invariant.adds added;
    }
