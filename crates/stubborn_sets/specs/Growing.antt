-- Sets of operators, or of variables, that grow.
use Rattle.std.specs.Prelude.{◌≡◌, ℕ, ◌+◌, ◌<◌, ◌⊎◌, IsTrue, List, length, Contains}
use Rattle.symk_task.specs.declared.parts.TaskParts.{TaskParts}
use Rattle.stubborn_sets.specs.declared.growing.Growing.{Growing}
pub use Rattle.stubborn_sets.specs.Depending.{left}
use Rattle.stubborn_sets.specs.Barring.{AreStopped}
use Rattle.stubborn_sets.specs.Closing.{has_mark, GrowsMarks, HasNeeds, HaveNeeds}

-- how many are not in it, or wait
abbrev pub room : Growing → ℕ
room set = left set.marks.items + length set.waiting.items

-- Numbers were added, and each that is new waits.
pub record AddsNumbers (old new : Growing) : Type 0 where
  pub grows : GrowsMarks old.marks.items new.marks.items
  pub each : length new.marks.items ≡ length old.marks.items
  pub keeps : (a : ℕ) → Contains old.waiting.items a → Contains new.waiting.items a
  pub waits : (a : ℕ) → IsTrue (has_mark new.marks.items a) → IsTrue (has_mark old.marks.items a) ⊎ Contains new.waiting.items a
  pub marked : (a : ℕ) → Contains new.waiting.items a → Contains old.waiting.items a ⊎ IsTrue (has_mark new.marks.items a)
  pub room : room new ≡ room old

-- Each member has what it needs, but for those that wait, which are members.
pub record IsGrowing (task : TaskParts) (values : List ℕ) (set : Growing) : Type 0 where
  pub each : length set.marks.items ≡ length task.operators
  pub marked : (a : ℕ) → Contains set.waiting.items a → IsTrue (has_mark set.marks.items a)
  pub needs : (a : ℕ) → IsTrue (has_mark set.marks.items a) → Contains set.waiting.items a ⊎ HasNeeds task values a set.marks.items

-- The same but for one member more, which waited.
pub record IsPopped (task : TaskParts) (values : List ℕ) (one : ℕ) (set : Growing) : Type 0 where
  pub within : one < length task.operators
  pub each : length set.marks.items ≡ length task.operators
  pub marked : (a : ℕ) → Contains set.waiting.items a → IsTrue (has_mark set.marks.items a)
  pub needs : (a : ℕ) → IsTrue (has_mark set.marks.items a) → (a ≡ one) ⊎ Contains set.waiting.items a ⊎ HasNeeds task values a set.marks.items

-- Each member has what it needs.
pub record IsClosedByNeeds (task : TaskParts) (values : List ℕ) (set : Growing) : Type 0 where
  pub each : length set.marks.items ≡ length task.operators
  pub needs : HaveNeeds task values set.marks.items set.marks.items

-- Of each barred variable the rules are stopped, but for those that wait, which are barred.
pub record IsBarring (task : TaskParts) (values : List ℕ) (barred set : Growing) : Type 0 where
  pub each : length barred.marks.items ≡ length task.variables
  pub marked : (var : ℕ) → Contains barred.waiting.items var → IsTrue (has_mark barred.marks.items var)
  pub rules : (var : ℕ) → IsTrue (has_mark barred.marks.items var) → Contains barred.waiting.items var ⊎ AreStopped task values barred.marks.items set.marks.items var
