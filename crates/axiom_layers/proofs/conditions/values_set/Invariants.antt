use Rattle.std.proofs.Common.{◌<◌, ℕ, length, slice_index_or}
use Rattle.symk_task.specs.declared.parts.Fact.{Fact}
use Rattle.task_run.specs.Values.{HasValue}
use Rattle.bdd_table.specs.Diagram.{Keeps, IsReduced}
use Rattle.bdd_sets.specs.Sets.{IsSetOfStates}
use Rattle.axiom_layers.specs.Roots.{AreSets}
use Rattle.axiom_layers.specs.Raising.{IsTrueExactlyWhere}
use Rattle.axiom_layers.proofs.conditions.values_set.Given as goal

abbrev pub invariant-loop-fact : goal.invariant-loop-fact
invariant-loop-fact l = record {
  kept : Keeps l.fn.ops l.ops;
  reduced : IsReduced l.ops;
  sets : AreSets l.parts l.order l.ops l.roots;
  known : l.all < length l.ops;
  of_states : IsSetOfStates l.order l.ops l.all;
  says : IsTrueExactlyWhere l.parts l.order l.ops l.roots
      (λ values. (k : ℕ) (d : Fact) → k < l.fact-index → HasValue values (slice_index_or l.facts k d)) l.all;
}
