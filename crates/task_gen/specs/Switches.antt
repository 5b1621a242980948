-- The task of n switches.
use Rattle.std.specs.Prelude.{ℕ, zero, suc, ◌+◌, List, [], ◌∷◌, ◌++◌, None, Some, codes, decimal, replicate}
use Rattle.symk_task.specs.declared.parts.Fact.{Fact}
use Rattle.symk_task.specs.declared.parts.Variable.{Variable}
use Rattle.symk_task.specs.declared.parts.Effect.{Effect}
use Rattle.symk_task.specs.declared.parts.Operator.{Operator}
use Rattle.symk_task.specs.declared.parts.Rule.{Rule}
use Rattle.symk_task.specs.declared.parts.TaskParts.{TaskParts}

-- f at each number below n, in order
abbrev pub up_to : {X : Type 0} → (ℕ → X) → ℕ → List X
up_to f zero = []
up_to f (suc n) = up_to f n ++ f n ∷ []

abbrev pub switch_fact : ℕ → ℕ → Fact
switch_fact var val = record { var = var; val = val }

-- switch i is on
abbrev pub switched_on : ℕ → Fact
switched_on i = switch_fact i 1

-- switch i
abbrev pub switch : ℕ → Variable
switch i = record { name = codes "s" ++ decimal i; layer = None; values = codes "off" ∷ codes "on" ∷ [] }

-- the derived variable that says whether all switches are on
abbrev pub all_on : Variable
all_on = record { name = codes "all"; layer = Some 0; values = codes "no" ∷ codes "yes" ∷ [] }

abbrev pub variables : ℕ → List Variable
variables n = up_to switch n ++ all_on ∷ []

-- where switch i has the value old, it gets the value new
abbrev pub effect : ℕ → ℕ → ℕ → Effect
effect i old new = record { conds = switch_fact i old ∷ []; var = i; pre = None; post = new }

-- turns switch i on where it is off, and off where it is on
abbrev pub flip : ℕ → Operator
flip i = record { name = codes "flip " ++ decimal i; prevail = []; effects = effect i 0 1 ∷ effect i 1 0 ∷ []; cost = 1 }

-- all are on where each switch is on
abbrev pub rule : ℕ → Rule
rule n = record { conds = up_to switched_on n; var = n; new = 1 }

-- The task of n switches, each off at first and all to be on.
abbrev pub switches : ℕ → TaskParts
switches n = record {
  metric = 1;
  variables = variables n;
  mutexes = [];
  initial = replicate (n + 1) 0;
  goal = switch_fact n 1 ∷ [];
  operators = up_to flip n;
  rules = rule n ∷ [];
}
