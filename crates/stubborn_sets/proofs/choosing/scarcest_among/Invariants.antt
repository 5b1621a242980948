use Rattle.std.proofs.Common.{◌≡◌, ℕ, ◌<◌, IfSome, MatchOption, slice_index_or}
use Rattle.symk_task.specs.declared.parts.Fact.{Fact}
use Rattle.task_run.specs.Values.{HasValue}
use Rattle.stubborn_sets.specs.Making.{IsUnmet}
use Rattle.stubborn_sets.specs.Barring.{CannotComeFirst}
use Rattle.stubborn_sets.proofs.choosing.scarcest_among.Given as goal

abbrev pub invariant-loop-fact : goal.invariant-loop-fact
invariant-loop-fact l = record {
  which : MatchOption l.best ((k : ℕ) (d : Fact) → k < l.fact-index → HasValue l.values (slice_index_or l.facts k d))
      (λ lack. IsUnmet l.values l.facts lack.fact);
  waits : IfSome l.best (λ lack. lack.makers ≡ 0 → CannotComeFirst l.parts l.barred l.marks lack.fact);
}
