-- The relations of operators one by one, and joined cost by cost.
use Rattle.std.specs.Prelude.{◌≡◌, ℕ, ◌+◌, ◌<◌, ◌≤◌, List, length, slice_index, slice_index_or, slice_range, All}
use Rattle.symk_task.specs.declared.parts.TaskParts.{TaskParts}
use Rattle.symk_task.specs.Steps.{Step}
use Rattle.bdd_table.specs.declared.node.Node.{Node}
use Rattle.var_order.specs.Layout.{Layout}
use Rattle.transitions.specs.declared.relations.Relation.{Relation}
use Rattle.trans_merge.specs.Merging.{IsRelation}
use Rattle.trans_merge.specs.Steps.{StepOfCost, HasSteps, HaveSteps}

-- one relation for each operator, with its steps
pub record AreSingle (task : TaskParts) (o : Layout) (nodes : List Node) (rs : List Relation) : Type 0 where
  pub operators : length rs ≡ length task.operators
  pub each : (op : ℕ) (d : Relation) → op < length task.operators → HasSteps o nodes (λ s t. Step task s op t) (slice_index_or rs op d)

-- The relations of the first n costs. Those of one cost stand between its start and the next one, and together have the steps
-- of the operators of that cost.
pub record AreJoined (task : TaskParts) (o : Layout) (nodes : List Node) (costs : List ℕ) (n : ℕ) (starts : List ℕ) (joined : List Relation) : Type 0 where
  pub count : length starts ≡ n + 1
  pub rising : (i : ℕ) → i < n → slice_index starts i ≤ slice_index starts (i + 1)
  pub within : (i : ℕ) → i ≤ n → slice_index starts i ≤ length joined
  pub last : slice_index starts n ≡ length joined
  pub all : All (IsRelation o nodes) joined
  pub each : (i : ℕ) → i < n → HaveSteps o nodes (StepOfCost task (slice_index costs i)) (slice_range joined (slice_index starts i) (slice_index starts (i + 1)))
