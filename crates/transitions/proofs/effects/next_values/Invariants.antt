use Rattle.std.proofs.Common.{◌≡◌, ◌<◌, ◌↔◌, ℕ, true, length, get_or}
use Rattle.symk_task.specs.declared.parts.Effect.{Effect}
use Rattle.bdd_table.specs.Diagram.{means, Keeps, IsReduced}
use Rattle.axiom_layers.specs.Roots.{AreRoots, EachState}
use Rattle.transitions.specs.NextValues.{Arrives}
use Rattle.transitions.proofs.effects.next_values.Given as goal

abbrev pub invariant-loop-effect : goal.invariant-loop-effect
invariant-loop-effect l = record {
  kept : Keeps l.fn.ops l.ops;
  reduced : IsReduced l.ops;
  roots : AreRoots l.task l.order l.ops l.derived;
  known : l.all < length l.ops;
  next : EachState l.task l.order (λ s b. (means l.ops l.all b ≡ true)
      ↔ ((k : ℕ) (d : Effect) → k < l.effect-index → Arrives l.task l.order l.effects (get_or l.effects k d).var s
      b));
}
