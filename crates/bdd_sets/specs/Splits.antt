-- A number without its highest bit.
use Rattle.std.specs.Prelude.{◌≡◌, ℕ, ◌-◌, ◌^◌, Bool, nat_le, if◌then◌else◌}

-- the bit that stands for 2 ^ below, and what is left of the value without it
pub record IsSplit (below value : ℕ) (bit : Bool) (rest : ℕ) : Type 0 where
  pub highest : bit ≡ nat_le (2 ^ below) value
  pub left : rest ≡ (if nat_le (2 ^ below) value then value - 2 ^ below else value)
