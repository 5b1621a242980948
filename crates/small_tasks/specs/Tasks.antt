-- Small tasks, as values.
use Rattle.std.specs.Prelude.{ℕ, List, [], ◌∷◌, None, Some, codes}
use Rattle.symk_task.specs.declared.parts.Fact.{Fact}
use Rattle.symk_task.specs.declared.parts.Variable.{Variable}
use Rattle.symk_task.specs.declared.parts.Effect.{Effect}
use Rattle.symk_task.specs.declared.parts.Operator.{Operator}
use Rattle.symk_task.specs.declared.parts.Rule.{Rule}
use Rattle.symk_task.specs.declared.parts.TaskParts.{TaskParts}

-- a base variable
abbrev pub base : List ℕ → List (List ℕ) → Variable
base name values = record { name = name; layer = None; values = values }

abbrev pub fact : ℕ → ℕ → Fact
fact var val = record { var = var; val = val }

-- where the first fact holds, the second does afterwards
abbrev pub given : Fact → Fact → Effect
given held made = record { conds = held ∷ []; var = made.var; pre = None; post = made.val }

-- the first variable has this value afterwards
abbrev pub made : ℕ → Effect
made value = record { conds = []; var = 0; pre = None; post = value }

-- changes the variable's value, which it asks for
abbrev pub change : List ℕ → ℕ → ℕ → ℕ → ℕ → Operator
change name var from to cost = record { name = name; prevail = []; effects = record { conds = []; var = var; pre = Some from; post = to } ∷ []; cost = cost }

-- changes nothing, at cost 0
abbrev pub idle : Operator
idle = record { name = codes "idle"; prevail = []; effects = []; cost = 0 }

-- without groups and rules
abbrev pub plain : ℕ → List Variable → List ℕ → List Fact → List Operator → TaskParts
plain metric variables initial goal operators = record {
  metric = metric;
  variables = variables;
  mutexes = [];
  initial = initial;
  goal = goal;
  operators = operators;
  rules = [];
}

-- is off or on
abbrev pub lamp : List ℕ → Variable
lamp name = base name (codes "off" ∷ codes "on" ∷ [])

-- has the value x0 or x1
abbrev pub either : Variable
either = base (codes "x") (codes "x0" ∷ codes "x1" ∷ [])

-- has the value x0, x1 or x2
abbrev pub any_of_three : Variable
any_of_three = base (codes "x") (codes "x0" ∷ codes "x1" ∷ codes "x2" ∷ [])

-- A switch that is to be on, and an operator that turns it on.
abbrev pub one_switch : TaskParts
one_switch = plain 0 (lamp (codes "var0") ∷ []) (0 ∷ []) (fact 0 1 ∷ []) (change (codes "switch-on") 0 0 1 1 ∷ [])

-- A switch that is to be on, and operators that turn it on and off.
abbrev pub switch_and_back : TaskParts
switch_and_back = plain 0 (lamp (codes "var0") ∷ []) (0 ∷ []) (fact 0 1 ∷ []) (change (codes "switch-on") 0 0 1 1 ∷ change (codes "switch-off") 0 1 0 1 ∷ [])

-- Two switches that are both to be on, and an operator for each that turns it on.
abbrev pub two_switches : TaskParts
two_switches = plain 0 (lamp (codes "a") ∷ lamp (codes "b") ∷ []) (0 ∷ 0 ∷ []) (fact 0 1 ∷ fact 1 1 ∷ []) (change (codes "a-on") 0 0 1 1 ∷ change (codes "b-on") 1 0 1 1 ∷ [])

-- where the place is this one, all is done
abbrev pub done_at : ℕ → Rule
done_at place = record { conds = fact 0 place ∷ []; var = 1; new = 1 }

-- A place that goes on twice, and rules that all is done at the second and the third.
abbrev pub axioms : TaskParts
axioms = record {
  metric = 0;
  variables = base (codes "pos") (codes "p0" ∷ codes "p1" ∷ codes "p2" ∷ []) ∷ record { name = codes "done"; layer = Some 0; values = codes "no" ∷ codes "yes" ∷ [] } ∷ [];
  mutexes = [];
  initial = 0 ∷ 0 ∷ [];
  goal = fact 1 1 ∷ [];
  operators = change (codes "m1") 0 0 1 1 ∷ change (codes "m2") 0 1 2 1 ∷ [];
  rules = done_at 1 ∷ done_at 2 ∷ [];
}

-- has the value a or b
abbrev pub a_or_b : Variable
a_or_b = base (codes "var0") (codes "a" ∷ codes "b" ∷ [])

-- The goal holds at the start, and there is no operator.
abbrev pub goal_at_start : TaskParts
goal_at_start = plain 1 (a_or_b ∷ []) (0 ∷ []) (fact 0 0 ∷ []) []

-- The goal doesn't hold, and there is no operator.
abbrev pub no_operator : TaskParts
no_operator = plain 1 (a_or_b ∷ []) (0 ∷ []) (fact 0 1 ∷ []) []

-- The aim is to be on, and operators turn a lamp on and off.
abbrev pub no_plan : TaskParts
no_plan = plain 0 (lamp (codes "aim") ∷ lamp (codes "lamp") ∷ []) (0 ∷ 0 ∷ []) (fact 0 1 ∷ []) (change (codes "up") 1 0 1 1 ∷ change (codes "down") 1 1 0 1 ∷ [])

-- An operator leads to the goal at cost 1, and another changes nothing at cost 0.
abbrev pub zero_costs : TaskParts
zero_costs = plain 1 (either ∷ []) (0 ∷ []) (fact 0 1 ∷ []) (change (codes "go") 0 0 1 1 ∷ idle ∷ [])

-- exchanges the values of two variables
abbrev pub swap : Operator
swap = record {
  name = codes "swap";
  prevail = [];
  effects = given (fact 1 0) (fact 0 0) ∷ given (fact 1 1) (fact 0 1) ∷ given (fact 0 0) (fact 1 0) ∷ given (fact 0 1) (fact 1 1) ∷ [];
  cost = 1;
}

-- Two variables whose values are to be exchanged, and the operator that does it.
abbrev pub conditional_effects : TaskParts
conditional_effects = plain 0 (base (codes "a") (codes "a0" ∷ codes "a1" ∷ []) ∷ base (codes "b") (codes "b0" ∷ codes "b1" ∷ []) ∷ []) (1 ∷ 0 ∷ []) (fact 0 0 ∷ fact 1 1 ∷ []) (swap ∷ [])

-- gives the first variable one value and then another
abbrev pub two_effects : ℕ → ℕ → Operator
two_effects earlier later = record {
  name = codes "two";
  prevail = [];
  effects = made earlier ∷ made later ∷ [];
  cost = 1;
}

-- An operator whose earlier effect reaches the goal and whose later one undoes that.
abbrev pub later_effect_undoes : TaskParts
later_effect_undoes = plain 0 (either ∷ []) (0 ∷ []) (fact 0 1 ∷ []) (two_effects 1 0 ∷ [])

-- An operator whose later effect reaches the goal, and whose earlier one doesn't.
abbrev pub later_effect_reaches : TaskParts
later_effect_reaches = plain 0 (either ∷ []) (0 ∷ []) (fact 0 1 ∷ []) (two_effects 0 1 ∷ [])

-- The only plan costs 2^64.
abbrev pub past_64_bits : TaskParts
past_64_bits = plain 1 (any_of_three ∷ []) (0 ∷ []) (fact 0 2 ∷ []) (change (codes "big") 0 0 1 18446744073709551615 ∷ change (codes "one") 0 1 2 1 ∷ [])

-- One plan costs a million millions, and the other one more.
abbrev pub near_and_far : TaskParts
near_and_far = plain 1 (any_of_three ∷ []) (0 ∷ []) (fact 0 2 ∷ []) (change (codes "near") 0 0 1 1 ∷ change (codes "far") 0 1 2 1000000000000 ∷ change (codes "jump") 0 0 2 1000000000000 ∷ [])

-- Two operators of one name that do the same.
abbrev pub same_name_twice : TaskParts
same_name_twice = plain 0 (either ∷ []) (0 ∷ []) (fact 0 1 ∷ []) (change (codes "go") 0 0 1 1 ∷ change (codes "go") 0 0 1 1 ∷ [])
