-- What a choice of any kind prefers, and what it notes.
use Rattle.std.specs.Prelude.{◌≡◌, ℕ, ◌<◌, ◌≤◌, ◌⊎◌, Bool, if◌then◌else◌}
use Rattle.bidirectional.specs.declared.choose.Lighter.{Lighter}
use Rattle.bidirectional.specs.declared.choose.Choice.{Choice}
use Rattle.bidirectional.specs.declared.choose.Choice.TheVariants as kinds

-- by the work of the last steps, and where they were as much by what is known
abbrev pub PrefersLighter : Lighter → ℕ → ℕ → Type 0
PrefersLighter last f b = (last.ahead < last.back) ⊎ ((last.ahead ≡ last.back) × (f ≤ b))

-- it chooses the forward side, where that is known below f and the other below b
abbrev pub Prefers : Choice → ℕ → ℕ → Type 0
Prefers kinds.Forward f b = Unit {0}
Prefers kinds.Backward f b = ⊥
Prefers kinds.Lower f b = f ≤ b
Prefers (kinds.Lighter last) f b = PrefersLighter last f b

-- what it is once a step is noted
abbrev pub noted : Choice → Bool → ℕ → Choice
noted kinds.Forward ahead work = kinds.Forward
noted kinds.Backward ahead work = kinds.Backward
noted kinds.Lower ahead work = kinds.Lower
noted (kinds.Lighter last) ahead work = kinds.Lighter (record {
  ahead = if ahead then work else last.ahead;
  back = if ahead then last.back else work;
})
