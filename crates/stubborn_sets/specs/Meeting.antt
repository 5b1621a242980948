-- When two operators meet well at a variable.
use Rattle.std.specs.Prelude.{◌≡◌, ℕ, ◌<◌, ◌⊎◌, List, All, IsSomeAnd, slice_get}
use Rattle.symk_task.specs.declared.parts.Effect.{Effect}
use Rattle.symk_task.specs.declared.parts.Operator.{Operator}
use Rattle.symk_task.specs.declared.parts.TaskParts.{TaskParts}
use Rattle.symk_task.specs.Variables.{range}
use Rattle.stubborn_sets.specs.Reading.{AllowsValue, AreLocal, Ignores, Untouched, value_after}

-- Where var has the value, both do the same to it in either order, let each other apply, and leave it where the other's effects elsewhere depend on it.
pub record MeetAt (task : TaskParts) (one other : Operator) (var val : ℕ) : Type 0 where
  pub allowed : AllowsValue other var (value_after one.effects var val)
  pub allows : AllowsValue one var (value_after other.effects var val)
  pub same : value_after other.effects var (value_after one.effects var val) ≡ value_after one.effects var (value_after other.effects var val)
  pub left : (value_after one.effects var val ≡ val) ⊎ Ignores task other var
  pub leaves : (value_after other.effects var val ≡ val) ⊎ Ignores task one var

-- they do so at each value below the number that both allow
abbrev pub MeetEach : TaskParts → Operator → Operator → ℕ → ℕ → Type 0
MeetEach task one other var range = (val : ℕ) → val < range → AllowsValue one var val → AllowsValue other var val → MeetAt task one other var val

-- One of them doesn't touch var, or what both do to it depends on its value alone, and they meet at each value.
pub record Meet (task : TaskParts) (one other : Operator) (var : ℕ) : Type 0 where
  pub well : Untouched task one var ⊎ Untouched task other var ⊎ (AreLocal var one.effects × AreLocal var other.effects × IsSomeAnd (slice_get task.variables var) (λ v. MeetEach task one other var (range v)))

-- they meet well at each variable that one of them writes
abbrev pub MeetOnAll : TaskParts → Operator → Operator → List Effect → Type 0
MeetOnAll task one other effects = All (λ effect. Meet task one other effect.var) effects
