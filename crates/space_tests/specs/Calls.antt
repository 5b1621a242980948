-- What a call that gives a set gives.
use Rattle.std.specs.Prelude.{◌≡◌, ℕ, ◌<◌}
use Rattle.task_system.specs.System.{State, Listed}
use Rattle.space_api.specs.View.{View, GoalIn, Unites, Meets, Lacks, Image, CostImage, Preimage, CostPreimage}
use Rattle.space_tests.specs.declared.asking.Call.{Call}
use Rattle.space_tests.specs.declared.asking.Call.TheVariants.{Empty, All, Init, GoalIn as GoalStates, Unite, Meet, Minus, ImageCost, PreCost, ImageOp, PreOp}

-- the call names no operator, or one of so many
abbrev pub IsAmongOperators : ℕ → Call → Type 0
IsAmongOperators operators (ImageOp op) = op < operators
IsAmongOperators operators (PreOp op) = op < operators
IsAmongOperators operators _ = Unit {0}

-- the states of the set that the call gives
abbrev pub Means : {Set : Type 0} → View Set → Call → Set → Set → State → Type 0
Means v Empty first second s = ⊥
Means v All first second s = Listed v.system.states s
Means v Init first second s = s ≡ v.system.initial
Means v GoalStates first second s = GoalIn v first s
Means v Unite first second s = Unites v first second s
Means v Meet first second s = Meets v first second s
Means v Minus first second s = Lacks v first second s
Means v (ImageCost cost) first second s = CostImage v cost first s
Means v (PreCost cost) first second s = CostPreimage v cost first second s
Means v (ImageOp op) first second s = Image v op first s
Means v (PreOp op) first second s = Preimage v op first second s
