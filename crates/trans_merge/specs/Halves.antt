-- How the joined relations of each cost come about.
use Rattle.std.specs.Prelude.{◌≡◌, ◌==◌, ℕ, ◌+◌, ◌<◌, List, length, slice_index, slice_index_or, slice_range}
use Rattle.std.specs.List.{filter, range_with_len}
use Rattle.symk_task.specs.declared.parts.TaskParts.{TaskParts}
use Rattle.symk_task.specs.Steps.{cost_at}
use Rattle.bdd_table.specs.declared.node.Node.{Node}
use Rattle.var_order.specs.Layout.{Layout}
use Rattle.transitions.specs.declared.relations.Relation.{Relation}
use Rattle.trans_merge.specs.Merging.{IsHalved}
use Rattle.trans_merge.specs.Copies.{IsCopy}

-- the operators before this number that have the cost, rising
abbrev pub operators_below : TaskParts → ℕ → ℕ → List ℕ
operators_below task cost n = filter (λ op. cost_at task op == cost) (range_with_len 0 n)

-- all operators that have the cost, rising
abbrev pub operators_of : TaskParts → ℕ → List ℕ
operators_of task cost = operators_below task cost (length task.operators)

-- the members are copies of the relations of these operators: one of each, in the same order
pub record AreCopies (single : List Relation) (operators : List ℕ) (members : List Relation) : Type 0 where
  pub count : length members ≡ length operators
  pub each : (k : ℕ) (d : Relation) → k < length operators → IsCopy (slice_index_or single (slice_index operators k) d) (slice_index_or members k d)

-- The joined relations of one cost are the results of joining members by halves, and the members are copies of the relations of
-- the operators of that cost.
pub record AreHalvedOf (task : TaskParts) (o : Layout) (bound : ℕ) (nodes : List Node) (single : List Relation) (cost : ℕ) (results : List Relation) : Type 0 where
  pub members : List Relation
  pub copies : AreCopies single (operators_of task cost) members
  pub results_are : IsHalved o bound nodes members results

-- so are those of the first n costs: the ones of a cost stand between its start and the next one
abbrev pub AreHalved : TaskParts → Layout → ℕ → List Node → List Relation → List ℕ → ℕ → List ℕ → List Relation → Type 0
AreHalved task o bound nodes single costs n starts joined =
    (i : ℕ) → i < n → AreHalvedOf task o bound nodes single (slice_index costs i) (slice_range joined (slice_index starts i) (slice_index starts (i + 1)))
