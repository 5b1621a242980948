use Rattle.std.proofs.Common.{◌≡◌, ℕ, ◌<◌, ◌⊎◌, IfSome, MatchOption, Some, None, slice_index_or}
use Rattle.symk_task.specs.declared.parts.Effect.{Effect}
use Rattle.task_run.specs.Values.{AllowsBy}
use Rattle.stubborn_sets.specs.Making.{IsRefusedOf}
use Rattle.stubborn_sets.specs.Barring.{HasMakers}
use Rattle.stubborn_sets.proofs.choosing.scarcest_asked.Given as goal

abbrev pub invariant-loop-effect : goal.invariant-loop-effect
invariant-loop-effect l = record {
  which : MatchOption l.best ((l.fn.before ≡ None) × ((k : ℕ) (d : Effect) → k < l.effect-index → AllowsBy l.values (slice_index_or l.effects k d)))
      (λ lack. (l.fn.before ≡ Some lack) ⊎ IsRefusedOf l.values l.effects lack.fact);
  waits : IfSome l.best (λ lack. lack.makers ≡ 0 → HasMakers l.parts lack.fact l.marks);
}
