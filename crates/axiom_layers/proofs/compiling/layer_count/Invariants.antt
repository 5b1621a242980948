use Rattle.std.proofs.Common.{ℕ, ◌<◌, ◌≤◌, IfSome, slice_index_or}
use Rattle.symk_task.specs.declared.parts.Variable.{Variable}
use Rattle.axiom_layers.proofs.compiling.layer_count.Given as goal

abbrev pub invariant-loop-variable : goal.invariant-loop-variable
invariant-loop-variable l = record {
  each : (k : ℕ) (d : Variable) → k < l.variable-index → IfSome (slice_index_or l.variables k d).layer (λ layer. layer < l.count);
  most : l.count ≤ 65536;
}
