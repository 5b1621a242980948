use Rattle.std.proofs.Common.{ℕ, ◌<◌, slice_index_or}
use Rattle.std.specs.List.{Contains}
use Rattle.symk_task.specs.declared.parts.Effect.{Effect}
use Rattle.stubborn_sets.specs.Kept.{list_at, number_of, given_by, AddsOne}
use Rattle.stubborn_sets.proofs.makers.add_effects.Given as goal

abbrev pub invariant-loop-effect : goal.invariant-loop-effect
invariant-loop-effect l = record {
  has : (k : ℕ) (d : Effect) → k < l.effect-index → Contains (list_at l.given (number_of l.firsts (given_by (slice_index_or l.effects k d)))) l.op;
  adds : AddsOne (list_at l.fn.given) (list_at l.given) l.op;
}
