-- Which facts an operator lacks, and which operators can make a fact true.
use Rattle.std.specs.Prelude.{◌≡◌, ◌≢◌, ℕ, ◌⊎◌, List, Some, All, Contains, slice_get, IsSomeAnd}
use Rattle.symk_task.specs.declared.parts.Fact.{Fact}
use Rattle.symk_task.specs.declared.parts.Effect.{Effect}
use Rattle.symk_task.specs.declared.parts.Operator.{Operator}
use Rattle.symk_task.specs.declared.parts.TaskParts.{TaskParts}
use Rattle.symk_task.specs.Variables.{IsBase}
use Rattle.task_run.specs.Values.{HasValue}
use Rattle.stubborn_sets.specs.Depending.{LeavesAlone}

abbrev pub GivesOther : Fact → Effect → Type 0
GivesOther fact effect = effect.var ≡ fact.var → effect.post ≢ fact.val

-- no effect gives the fact
abbrev pub GivesNone : Fact → List Effect → Type 0
GivesNone fact effects = All (GivesOther fact) effects

-- the operator can't make the fact true: of a base variable, no effect gives it; of a derived one, no effect is on what it depends on
abbrev pub CannotMake : TaskParts → Fact → Operator → Type 0
CannotMake task fact operator =
    (¬ IsBase task fact.var ⊎ GivesNone fact operator.effects) × (IsBase task fact.var ⊎ LeavesAlone task fact.var operator.effects)

-- the operator of this number can't
abbrev pub IsNoMaker : TaskParts → Fact → ℕ → Type 0
IsNoMaker task fact a = IsSomeAnd (slice_get task.operators a) (CannotMake task fact)

-- it is one of the facts, and doesn't have its value
abbrev pub IsUnmet : List ℕ → List Fact → Fact → Type 0
IsUnmet values facts fact = Contains facts fact × ¬ HasValue values fact

-- the effect asks for it, and its variable has another value
abbrev pub IsRefusedFact : List ℕ → Effect → Fact → Type 0
IsRefusedFact values effect fact = (fact.var ≡ effect.var) × (effect.pre ≡ Some fact.val) × ¬ HasValue values fact

-- one of the effects asks for it
abbrev pub IsRefusedOf : List ℕ → List Effect → Fact → Type 0
IsRefusedOf values effects fact = (effect : Effect) × Contains effects effect × IsRefusedFact values effect fact

-- it is a precondition of the operator, and doesn't have its value
abbrev pub IsMissingFact : List ℕ → Operator → Fact → Type 0
IsMissingFact values operator fact = IsUnmet values operator.prevail fact ⊎ IsRefusedOf values operator.effects fact
