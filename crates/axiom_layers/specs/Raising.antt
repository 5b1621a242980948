-- Rules that are tried in all states at once, seen in one of them.
use Rattle.std.specs.Prelude.{◌≡◌, ℕ, ◌<◌, ◌≤◌, ◌+◌, ◌⊎◌, ◌↔◌, true, if◌then◌else◌, List, length, map, slice_index, slice_index_or, slice_set, slice_get, Option, Some, None, IfSome, All, Contains}
use Rattle.std.specs.List.{range_with_len}
use Rattle.symk_task.specs.declared.parts.Rule.{Rule}
use Rattle.symk_task.specs.declared.parts.TaskParts.{TaskParts}
use Rattle.symk_task.specs.Variables.{layer_of, place, other_value}
use Rattle.task_run.specs.declared.counting.Counting.{Counting}
use Rattle.task_run.specs.Values.{HasValue}
use Rattle.task_run.specs.Counted.{IsCounting}
use Rattle.task_run.specs.Layer.{Raises, Grows, IsStuck, at_default}
use Rattle.bdd_table.specs.declared.node.Node.{Node}
use Rattle.bdd_table.specs.Diagram.{Bits, means}
use Rattle.var_order.specs.Layout.{Layout}
use Rattle.axiom_layers.specs.Roots.{EachState}

-- the value of a variable in a state with these bits, by its layer: a derived variable has its other value where its root is true
abbrev pub value_by_roots : TaskParts → List Node → List ℕ → List ℕ → Bits → ℕ → Option ℕ → ℕ
value_by_roots task nodes roots s b var None = slice_index s (place task var)
value_by_roots task nodes roots s b var (Some layer) = if means nodes (slice_index roots var) b then other_value task var else slice_index task.initial var

-- one value for each variable
unfoldable pub values_of : TaskParts → List Node → List ℕ → List ℕ → Bits → List ℕ
values_of task nodes roots s b = map (λ var. value_by_roots task nodes roots s b var (layer_of task var)) (range_with_len 0 (length task.variables))

-- the Id is true in exactly the states whose values are so
abbrev pub IsTrueExactlyWhere : TaskParts → Layout → List Node → List ℕ → (List ℕ → Type 0) → ℕ → Type 0
IsTrueExactlyWhere task o nodes roots P id = EachState task o (λ s b. (means nodes id b ≡ true) ↔ P (values_of task nodes roots s b))

-- the rule's variable has its default value, and the rule's conditions have their values
pub record IsReady (task : TaskParts) (values : List ℕ) (rule : Rule) : Type 0 where
  pub unraised : slice_index values rule.var ≡ slice_index task.initial rule.var
  pub conds : All (HasValue values) rule.conds

-- the rule raised its variable, or it could not and nothing changed
abbrev pub RuleTurn : TaskParts → Rule → List ℕ → List ℕ → Type 0
RuleTurn task rule old new = (IsReady task old rule × (new ≡ slice_set old rule.var rule.new)) ⊎ ((¬ IsReady task old rule) × (new ≡ old))

-- the rules are those that count for the layer
pub record AreOfLayer (task : TaskParts) (layer : ℕ) (rules : List Counting) : Type 0 where
  pub counting : All (IsCounting task) rules
  pub same : All (λ (x : Counting). x.layer ≡ layer) rules
  pub each : (x : Counting) → IsCounting task x → x.layer ≡ layer → Contains rules x

-- none of the first n rules of the list raises anything
abbrev pub NoneRaises : TaskParts → ℕ → List Counting → ℕ → List ℕ → Type 0
NoneRaises task layer rules n values = (k : ℕ) (d : Counting) → k < n → IfSome (slice_get task.rules (slice_index_or rules k d).rule) (λ rule. ¬ Raises task layer values rule)

-- the first n rules raised something, or none of them could and nothing changed
abbrev pub PassTurn : TaskParts → ℕ → List Counting → ℕ → List ℕ → List ℕ → Type 0
PassTurn task layer rules n old new = Grows task layer old new × ((at_default task.initial new < at_default task.initial old) ⊎ ((new ≡ old) × NoneRaises task layer rules n old))

-- after so many passes no rule of the layer raises anything, or so many variables were raised
abbrev pub GrowsInPasses : TaskParts → ℕ → ℕ → List ℕ → List ℕ → Type 0
GrowsInPasses task layer n old new = Grows task layer old new × (IsStuck task layer new ⊎ (at_default task.initial new + n ≤ length task.variables))

-- rules of the layer raised variables until none could
abbrev pub Closes : TaskParts → ℕ → List ℕ → List ℕ → Type 0
Closes task layer old new = Grows task layer old new × IsStuck task layer new
