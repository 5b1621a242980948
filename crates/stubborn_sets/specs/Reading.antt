-- What an operator reads, asks for and writes, by the task alone.
use Rattle.std.specs.Prelude.{◌≡◌, ◌≢◌, ℕ, ◌⊎◌, Bool, ◌&&◌, ◌==◌, List, All, IfSome, fold, if◌then◌else◌}
use Rattle.std.specs.List.{list_all}
use Rattle.symk_task.specs.declared.parts.Fact.{Fact}
use Rattle.symk_task.specs.declared.parts.Effect.{Effect}
use Rattle.symk_task.specs.declared.parts.Operator.{Operator}
use Rattle.symk_task.specs.declared.parts.TaskParts.{TaskParts}
use Rattle.symk_task.specs.Variables.{IsBase}

-- each fact is one of a base variable
abbrev pub AreBase : TaskParts → List Fact → Type 0
AreBase task facts = All (λ fact. IsBase task fact.var) facts

-- none is one of var
abbrev pub AreOff : ℕ → List Fact → Type 0
AreOff var facts = All (λ fact. fact.var ≢ var) facts

-- each is one of var
abbrev pub AreOn : ℕ → List Fact → Type 0
AreOn var facts = All (λ fact. fact.var ≡ var) facts

-- no rule has a condition on var
abbrev pub Unread : TaskParts → ℕ → Type 0
Unread task var = All (λ rule. AreOff var rule.conds) task.rules

-- the operator reads no derived variable
abbrev pub ReadsBaseAlone : TaskParts → Operator → Type 0
ReadsBaseAlone task operator = AreBase task operator.prevail × All (λ effect. AreBase task effect.conds) operator.effects

abbrev pub FactAllows : ℕ → ℕ → Fact → Type 0
FactAllows var val fact = fact.var ≡ var → fact.val ≡ val

abbrev pub EffectAllows : ℕ → ℕ → Effect → Type 0
EffectAllows var val effect = effect.var ≡ var → IfSome effect.pre (λ asked. asked ≡ val)

-- no precondition asks for another value of var
abbrev pub AllowsValue : Operator → ℕ → ℕ → Type 0
AllowsValue operator var val = All (FactAllows var val) operator.prevail × All (EffectAllows var val) operator.effects

-- an effect on var has its conditions on var alone
abbrev pub IsLocal : ℕ → Effect → Type 0
IsLocal var effect = (effect.var ≢ var) ⊎ AreOn var effect.conds

-- what the effects do to var depends on its own value alone
abbrev pub AreLocal : ℕ → List Effect → Type 0
AreLocal var effects = All (IsLocal var) effects

abbrev pub EffectIgnores : ℕ → Effect → Type 0
EffectIgnores var effect = (effect.var ≡ var) ⊎ AreOff var effect.conds

-- nothing that the operator does to other variables, and no derived variable that it reads, depends on var
abbrev pub Ignores : TaskParts → Operator → ℕ → Type 0
Ignores task operator var = All (EffectIgnores var) operator.effects × (ReadsBaseAlone task operator ⊎ Unread task var)

-- the operator neither reads nor writes var
abbrev pub Untouched : TaskParts → Operator → ℕ → Type 0
Untouched task operator var = AreOff var operator.prevail × All (λ effect. effect.var ≢ var) operator.effects × Ignores task operator var

-- the effect changes var where it has the value, if its conditions are on var alone
abbrev pub fires_at : ℕ → ℕ → Effect → Bool
fires_at var val effect = (effect.var == var) && list_all (λ (cond : Fact). cond.val == val) effect.conds

-- what var has after the effects where it has the value, if their conditions are on var alone
unfoldable pub value_after : List Effect → ℕ → ℕ → ℕ
value_after effects var val = fold (λ new (effect : Effect). if fires_at var val effect then effect.post else new) val effects
