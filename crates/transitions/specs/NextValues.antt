-- What the bits of the next state say after the effects of an operator.
use Rattle.std.specs.Prelude.{◌≡◌, ℕ, ◌⊎◌, ◌==◌, ◌&&◌, ◌||◌, not, Bool, List, slice_index, All}
use Rattle.symk_task.specs.declared.parts.Effect.{Effect}
use Rattle.symk_task.specs.declared.parts.Operator.{Operator}
use Rattle.symk_task.specs.declared.parts.TaskParts.{TaskParts}
use Rattle.symk_task.specs.Variables.{IsState, place}
use Rattle.symk_task.specs.Steps.{Holds, Allows, Fires, ValueAfter}
use Rattle.bdd_table.specs.Diagram.{Bits}
use Rattle.var_order.specs.Layout.{Layout}
use Rattle.var_order.specs.Codes.{IsCode, spelt_value}

-- whether two bits are the same
abbrev pub agree : Bool → Bool → Bool
agree x y = (x && y) || not (x || y)

-- An effect on the variable that fires asks for its own value, and any other leaves what was asked for.
abbrev pub EffectTurn : TaskParts → Layout → Effect → ℕ → List ℕ → Bits → Bool → Bool → Type 0
EffectTurn task o effect var s b old new =
    ((effect.var ≡ var) × Fires task s effect × (new ≡ (spelt_value o 1 b var == effect.post)))
    ⊎ ((effect.var ≡ var → ¬ Fires task s effect) × (new ≡ old))

-- t says whether the next bits of the variable spell its value after the effects
abbrev pub IsNextValue : TaskParts → Layout → List Effect → ℕ → List ℕ → Bits → Bool → Type 0
IsNextValue task o effects var s b t =
    (value : ℕ) × ValueAfter (Fires task s) effects var (slice_index s (place task var)) value × (t ≡ (spelt_value o 1 b var == value))

-- the next bits of the variable spell its value after the effects
abbrev pub Arrives : TaskParts → Layout → List Effect → ℕ → List ℕ → Bits → Type 0
Arrives task o effects var s b = (value : ℕ) × ValueAfter (Fires task s) effects var (slice_index s (place task var)) value × (spelt_value o 1 b var ≡ value)

-- the operator applies in the state
abbrev pub AppliesIn : TaskParts → List ℕ → Operator → Type 0
AppliesIn task s operator = All (Holds task s) operator.prevail × All (Allows task s) operator.effects

-- the bits are those of a state in which the operator applies, and of the values after its effects
abbrev pub IsStepBy : TaskParts → Layout → Operator → Bits → Type 0
IsStepBy task o operator b =
    (s : List ℕ) × IsState task s × IsCode o 0 s b × AppliesIn task s operator × All (λ (effect : Effect). Arrives task o operator.effects effect.var s b) operator.effects
