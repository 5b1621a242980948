use Rattle.std.proofs.Common.{◌∙◌, ◌==◌, ap, subst, List}
use Rattle.std.proofs.lemmas.List.{take_all}
use Rattle.symk_task.specs.declared.parts.Effect.{Effect}
use Rattle.bdd_table.specs.Diagram.{means}
use Rattle.var_order.specs.declared.block.Block.{Block}
use Rattle.var_order.specs.Codes.{number}
use Rattle.var_order.proofs.Values.{code_value}
use Rattle.axiom_layers.proofs.Raised.{roots_kept}
use Rattle.axiom_layers.proofs.RootValues.{keeps_on}
use Rattle.transitions.specs.NextValues.{IsNextValue}
use Rattle.transitions.proofs.Asking.{base_room, next_start, next_more}
use Rattle.transitions.proofs.Gathering.{StandsAt}
use Rattle.transitions.proofs.effects.next_value.Goals as goal

pub loop-effect-init : goal.loop-effect-init
loop-effect-init c =
    let task = c.args.task.now in
    let order = c.args.order.now in
    let it = c.in_ok-asked.ensures in
    record {
      kept = it.kept;
      reduced = it.reduced;
      roots = roots_kept task order c.args.ops.now c.stays.new.ops c.args.derived.now it.kept c.requires.roots;
      known = it.known;
      next = λ s b state code. next_start task order c.args.var s b (means c.stays.new.ops c.in_ok-asked.asked b)
          (code_value task order 0 s b c.args.var c.requires.order code c.requires.var)
          (it.meaning b ∙ ap (λ (x : Block). number b 1 x.first x.width == number b 0 x.first x.width) c.block_of-block.ensures.is);
    }

pub loop-effect-preserved : goal.loop-effect-preserved
loop-effect-preserved c =
    let task = c.args.task.now in
    let order = c.args.order.now in
    let inv = c.loop-effect.invariant in
    let it = c.in_ok-asked-2.ensures in
    let at : StandsAt c.args.effects.now c.loop-effect.effect-index c.effect-item.result = record {
      within = c.loop-effect-test.true;
      is = c.effect-item.is;
    } in
    record {
      kept = keeps_on c.args.ops.now c.loop-effect.ops c.with_effect.new.ops inv.kept it.kept;
      reduced = it.reduced;
      roots = roots_kept task order c.loop-effect.ops c.with_effect.new.ops c.args.derived.now it.kept inv.roots;
      known = it.known;
      next = λ s b state code. next_more task order c.args.var s b
          (means c.loop-effect.ops c.loop-effect.asked b) (means c.with_effect.new.ops c.in_ok-asked-2.asked b)
          at (inv.next s b state code) (it.turn s b state code);
    }

pub returns-clause-meaning : goal.returns-clause-meaning
returns-clause-meaning c = λ s b state code.
    subst (λ (es : List Effect). IsNextValue c.args.task.now c.args.order.now es c.args.var s b (means c.loop-effect.ops c.loop-effect.asked b))
    (take_all c.loop-effect.effect-index c.args.effects.now c.loop-effect-test.false) (c.loop-effect.invariant.next s b state code)

pub stays-requires : goal.stays-requires
stays-requires c = base_room c.args.task.now c.args.order.now c.args.var c.block_of-block.result c.requires.order c.requires.var c.block_of-block.ensures.is
