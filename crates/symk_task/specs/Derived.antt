-- Which derived variables have their other value in a state.
use Rattle.std.specs.Prelude.{◌≡◌, ℕ, zero, suc, ◌+◌, ◌<◌, ◌⊎◌, List, [], ◌∷◌, slice_index, Contains}
use Rattle.std.specs.List.{AllByRecursion}
use Rattle.symk_task.specs.declared.parts.Fact.{Fact}
use Rattle.symk_task.specs.declared.parts.Rule.{Rule}
use Rattle.symk_task.specs.declared.parts.TaskParts.{TaskParts}
use Rattle.symk_task.specs.Variables.{IsBase, HasLayer, place, other_value}

-- the rule is one of the task's and leads to the other value of its variable
abbrev pub Counts : TaskParts → Rule → Type 0
Counts task rule = Contains task.rules rule × (rule.new ≡ other_value task rule.var)

-- a rule of the list is for var
abbrev pub HasRule : ℕ → List Rule → Type 0
HasRule var [] = ⊥
HasRule var (rule ∷ rules) = (rule.var ≡ var) ⊎ HasRule var rules

-- How a condition of a rule for this layer may be met, after the rules of the list, where Low are the raised variables of lower layers.
pub data Met (task : TaskParts) (s : List ℕ) (Low : ℕ → Type 0) (layer : ℕ) (earlier : List Rule) (fact : Fact) : Type 0 where
  base : IsBase task fact.var → slice_index s (place task fact.var) ≡ fact.val → Met task s Low layer earlier fact
  same : HasLayer task fact.var layer → fact.val ≡ other_value task fact.var → HasRule fact.var earlier → Met task s Low layer earlier fact
  raised : (below : ℕ) → HasLayer task fact.var below → below < layer → fact.val ≡ other_value task fact.var → Low fact.var → Met task s Low layer earlier fact
  default : (below : ℕ) → HasLayer task fact.var below → below < layer → fact.val ≡ slice_index task.initial fact.var → ¬ Low fact.var → Met task s Low layer earlier fact

-- Each rule of the list counts, is for this layer, and has its conditions met after the rules before it. The list is written last rule first.
abbrev pub Derives : TaskParts → List ℕ → (ℕ → Type 0) → ℕ → List Rule → Type 0
Derives task s Low layer [] = Unit {0}
Derives task s Low layer (rule ∷ earlier) = Counts task rule × HasLayer task rule.var layer × AllByRecursion (Met task s Low layer earlier) rule.conds × Derives task s Low layer earlier

-- var is raised, and its layer is below the number.
unfoldable pub RaisedBelow : ℕ → TaskParts → List ℕ → ℕ → Type 0
RaisedBelow zero task s var = ⊥
RaisedBelow (suc layer) task s var =
    ((last : Rule) × (earlier : List Rule) × (last.var ≡ var) × Derives task s (RaisedBelow layer task s) layer (last ∷ earlier))
    ⊎ RaisedBelow layer task s var

-- A derived variable is raised in a state where a list of rules of its layer derives it.
abbrev pub Raised : TaskParts → List ℕ → ℕ → Type 0
Raised task s var = (layer : ℕ) × HasLayer task var layer × RaisedBelow (layer + 1) task s var
