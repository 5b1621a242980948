use Rattle.std.proofs.Common.{◌≡◌, true}
use Rattle.symk_task.specs.Steps.{Allows}
use Rattle.bdd_table.specs.Diagram.{means}
use Rattle.axiom_layers.proofs.Raised.{roots_kept}
use Rattle.axiom_layers.proofs.RootValues.{keeps_on}
use Rattle.transitions.proofs.Gathering.{more_allowed}
use Rattle.transitions.proofs.conditions.all_allowed.Goals as goal

pub loop-effect-preserved : goal.loop-effect-preserved
loop-effect-preserved c =
    let task = c.args.task.now in
    let order = c.args.order.now in
    let inv = c.loop-effect.invariant in
    let it = c.in_ok-left.ensures in
    record {
      kept = keeps_on c.args.ops.now c.loop-effect.ops c.allowed.new.ops inv.kept it.kept;
      reduced = it.reduced;
      roots = roots_kept task order c.loop-effect.ops c.allowed.new.ops c.args.derived.now it.kept inv.roots;
      known = it.known;
      left = λ s b state code. more_allowed (means c.args.ops.now c.args.set b ≡ true) (Allows task s)
          c.args.effects.now c.loop-effect.effect-index c.effect-item.result
          (means c.loop-effect.ops c.loop-effect.left b) (means c.allowed.new.ops c.in_ok-left.left b)
          c.loop-effect-test.true c.effect-item.is (inv.left s b state code) (it.meaning s b state code);
    }
