-- When a space collects, and what that leaves.
use Rattle.std.specs.Prelude.{◌≡◌, ℕ, ◌+◌, ◌*◌, ◌<◌, ◌≤◌}
use Rattle.space_api.specs.View.{View}

-- more is held than twice what was needed last, and 1,000
abbrev pub IsFull : {Set : Type 0} → View Set → Type 0
IsFull v = 2 * v.last + 1000 < v.held

-- as much is held as before, and the collection before stays the last
pub record SameRoom {Set : Type 0} (v w : View Set) : Type 0 where
  pub held : w.held ≡ v.held
  pub last : w.last ≡ v.last

-- What is held is what the space needs, as before so afterwards, and that is kept as the last number.
pub record Collected {Set : Type 0} (Needed Needs : ℕ → Type 0) (v w : View Set) : Type 0 where
  pub needed : (n : ℕ) → Needed n → w.held ≡ n
  pub needs : Needs w.held
  pub last : w.last ≡ w.held

-- a full space collects, another one stays as it is; afterwards none is full
pub record Tidied {Set : Type 0} (Needed Needs : ℕ → Type 0) (v w : View Set) : Type 0 where
  pub full : IsFull v → Collected Needed Needs v w
  pub stays : v.held ≤ 2 * v.last + 1000 → SameRoom v w
  pub few : w.held ≤ 2 * w.last + 1000
