use Rattle.std.proofs.Common.{◌≡◌, ◌<◌, ◌↔◌, ℕ, true, length, get_or}
use Rattle.symk_task.specs.declared.parts.Effect.{Effect}
use Rattle.symk_task.specs.Steps.{Allows}
use Rattle.bdd_table.specs.Diagram.{means, Keeps, IsReduced}
use Rattle.axiom_layers.specs.Roots.{AreRoots, EachState}
use Rattle.transitions.proofs.conditions.all_allowed.Given as goal

abbrev pub invariant-loop-effect : goal.invariant-loop-effect
invariant-loop-effect l = record {
  kept : Keeps l.fn.ops l.ops;
  reduced : IsReduced l.ops;
  roots : AreRoots l.task l.order l.ops l.derived;
  known : l.left < length l.ops;
  left : EachState l.task l.order (λ s b. (means l.ops l.left b ≡ true)
      ↔ ((means l.fn.ops l.set b ≡ true) × ((k : ℕ) (d : Effect) → k < l.effect-index → Allows l.task s
      (get_or l.effects k d))));
}
