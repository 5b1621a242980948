use Rattle.std.proofs.Common.{◌<◌, length, take}
use Rattle.bdd_table.specs.Diagram.{means, Keeps, IsReduced}
use Rattle.axiom_layers.specs.Roots.{AreRoots, EachState}
use Rattle.transitions.specs.NextValues.{IsNextValue}
use Rattle.transitions.proofs.effects.next_value.Given as goal

abbrev pub invariant-loop-effect : goal.invariant-loop-effect
invariant-loop-effect l = record {
  kept : Keeps l.fn.ops l.ops;
  reduced : IsReduced l.ops;
  roots : AreRoots l.task l.order l.ops l.derived;
  known : l.asked < length l.ops;
  next : EachState l.task l.order (λ s b. IsNextValue l.task l.order (take l.effect-index l.effects) l.var s b (means l.ops l.asked b));
}
