-- What a space that passes on so many calls of another does to their number.
use Rattle.std.specs.Prelude.{◌≡◌, ℕ, ◌-◌, Result, IsErr}
use Rattle.std.specs.declared.alloc.AllocError.{AllocError}

-- A call takes one of those that are left. With none left it is refused, and the space to which calls are passed stays as it is.
pub record Spends {S T : Type 0} (before after : ℕ) (old new : S) (result : Result T AllocError) : Type 0 where
  pub left : after ≡ before - 1
  pub spent : before ≡ 0 → IsErr result × (new ≡ old)
