-- What holds in a state, and the steps from state to state.
use Rattle.std.specs.Prelude.{◌≡◌, ℕ, ◌⊎◌, ◌↔◌, List, ◌∷◌, ◌++◌, length, slice_index, slice_get, All, IfSome, IsSomeAnd, if◌then◌else◌, ◌==◌}
use Rattle.std.specs.Option.{option_map_or}
use Rattle.std.specs.List.{AllByRecursion}
use Rattle.symk_task.specs.declared.parts.Fact.{Fact}
use Rattle.symk_task.specs.declared.parts.Effect.{Effect}
use Rattle.symk_task.specs.declared.parts.TaskParts.{TaskParts}
use Rattle.symk_task.specs.Variables.{IsBase, HasLayer, place, other_value}
use Rattle.symk_task.specs.Derived.{Raised}

-- a base variable has the value of the state; a derived one has its other value exactly where it is raised
abbrev pub Holds : TaskParts → List ℕ → Fact → Type 0
Holds task s fact =
    (IsBase task fact.var × (slice_index s (place task fact.var) ≡ fact.val))
    ⊎ ((layer : ℕ) × HasLayer task fact.var layer × ((fact.val ≡ other_value task fact.var) ↔ Raised task s fact.var))

-- an effect changes its variable where its conditions hold
abbrev pub Fires : TaskParts → List ℕ → Effect → Type 0
Fires task s effect = All (Holds task s) effect.conds

-- the value that an effect asks for, where it asks for one
abbrev pub Allows : TaskParts → List ℕ → Effect → Type 0
Allows task s effect = IfSome effect.pre (λ val. Holds task s (record { var = effect.var; val = val }))

-- the operator of this number applies
abbrev pub Applies : TaskParts → List ℕ → ℕ → Type 0
Applies task s a = IsSomeAnd (slice_get task.operators a) (λ operator. All (Holds task s) operator.prevail × All (Allows task s) operator.effects)

-- none of the effects changes var
abbrev pub NoneOn : (Effect → Type 0) → ℕ → List Effect → Type 0
NoneOn Fires var effects = AllByRecursion (λ effect. effect.var ≡ var → ¬ Fires effect) effects

-- One effect changes var, and none after it does.
pub record LastOn (Fires : Effect → Type 0) (var : ℕ) (effects : List Effect) (last : Effect) : Type 0 where
  pub before : List Effect
  pub later : List Effect
  pub here : effects ≡ before ++ last ∷ later
  pub on : last.var ≡ var
  pub fires : Fires last
  pub none : NoneOn Fires var later

-- what a variable has after the effects: what the last that changes it says, else what it had
abbrev pub ValueAfter : (Effect → Type 0) → List Effect → ℕ → ℕ → ℕ → Type 0
ValueAfter Fires effects var old new = ((last : Effect) × LastOn Fires var effects last × (new ≡ last.post)) ⊎ (NoneOn Fires var effects × (new ≡ old))

-- The state that an operator leads to.
pub record After (task : TaskParts) (s : List ℕ) (a : ℕ) (t : List ℕ) : Type 0 where
  pub each : length t ≡ length s
  pub values : IsSomeAnd (slice_get task.operators a) (λ operator.
      (var : ℕ) → IsBase task var → ValueAfter (Fires task s) operator.effects var (slice_index s (place task var)) (slice_index t (place task var)))

-- An operator that applies leads from one state to the other.
abbrev pub Step : TaskParts → List ℕ → ℕ → List ℕ → Type 0
Step task s a t = Applies task s a × After task s a t

-- What an operator costs: 1 unless the metric is 1.
abbrev pub cost_at : TaskParts → ℕ → ℕ
cost_at task a = if task.metric == 0 then 1 else option_map_or (λ operator. operator.cost) (slice_get task.operators a) 0
