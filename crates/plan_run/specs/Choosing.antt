-- Which side of a search the program prefers.
use Rattle.std.specs.Prelude.{ℕ, ◌<◌, ◌≤◌, ◌^◌, ◌⊎◌, IsFalse, Bool}
use Rattle.bidirectional.specs.Choices.{PrefersLighter}
use Rattle.bidirectional.specs.declared.choose.Choice.{Choice}
use Rattle.bidirectional.specs.declared.choose.Choice.TheVariants as kinds
use Rattle.plan_run.specs.declared.choice.Patient.{Patient}

-- The last step was the forward side's or not, one of so many in a row, and all steps were so much work together. A side
-- that is asked for is preferred always. Else after 1,000 steps of one side in a row the other is; and where no direction is
-- asked for, while all steps are less work than 2^18, the backward one is.
abbrev pub PrefersWith : Choice → ℕ → Bool → ℕ → ℕ → ℕ → Type 0
PrefersWith kinds.Forward spent forward steps f b = Unit {0}
PrefersWith kinds.Backward spent forward steps f b = ⊥
PrefersWith kinds.Lower spent forward steps f b = ((1000 ≤ steps) × IsFalse forward) ⊎ ((steps < 1000) × (f ≤ b))
PrefersWith (kinds.Lighter last) spent forward steps f b = ((1000 ≤ steps) × IsFalse forward) ⊎ ((steps < 1000) × (2 ^ 18 ≤ spent) × PrefersLighter last f b)

-- it prefers the forward side, where that one is known below f and the other below b
abbrev pub PrefersPatient : Patient → ℕ → ℕ → Type 0
PrefersPatient x f b = PrefersWith x.choice x.spent x.forward x.steps f b
