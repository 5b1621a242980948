-- What the relations of a task's operators are.
use Rattle.std.specs.Prelude.{◌≡◌, ℕ, List, length}
use Rattle.symk_task.specs.declared.parts.TaskParts.{TaskParts}
use Rattle.task_system.specs.Computed.{system_of}
use Rattle.space_api.specs.Costs.{costs_of}
use Rattle.bdd_table.specs.declared.node.Node.{Node}
use Rattle.bdd_table.specs.Diagram.{means}
use Rattle.var_order.specs.Layout.{Layout, IsOrderOf}
use Rattle.transitions.specs.Relations.{IsSet}
use Rattle.trans_merge.specs.declared.relations.OperatorRelations.{OperatorRelations}
use Rattle.trans_merge.specs.Gathered.{AreSingle, AreJoined}
use Rattle.trans_merge.specs.Halves.{AreHalved}

-- The costs are the operators' different ones, rising. Each operator has its relation, and the joined relations of a cost have
-- the steps of the operators of that cost, and no others.
pub record AreRelationsOf (task : TaskParts) (o : Layout) (nodes : List Node) (r : OperatorRelations) : Type 0 where
  pub order : IsOrderOf task o
  pub costs : r.costs.items ≡ costs_of (system_of task)
  pub single : AreSingle task o nodes r.single.items
  pub joined : AreJoined task o nodes r.costs.items (length r.costs.items) r.starts.items r.joined.items

-- the joined relations of every cost are those that joining the operators' own ones by halves gives, with this bound of nodes
abbrev pub AreJoinedWithin : TaskParts → Layout → ℕ → List Node → OperatorRelations → Type 0
AreJoinedWithin task o bound nodes r = AreHalved task o bound nodes r.single.items r.costs.items (length r.costs.items) r.starts.items r.joined.items

-- the relations are those of the task's operators, and the Id is a set of states
pub record AreAsked (task : TaskParts) (o : Layout) (nodes : List Node) (r : OperatorRelations) (set : ℕ) : Type 0 where
  pub relations : AreRelationsOf task o nodes r
  pub states : IsSet o (means nodes set)
