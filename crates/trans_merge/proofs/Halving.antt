-- The joined relations of one cost, as the table grows.
use Rattle.std.proofs.Common.{ℕ, ◌+◌, List, get_or}
use Rattle.std.specs.List.{slice_range}
use Rattle.symk_task.specs.declared.parts.TaskParts.{TaskParts}
use Rattle.bdd_table.specs.declared.node.Node.{Node}
use Rattle.bdd_table.specs.Diagram.{IsReduced, Keeps}
use Rattle.var_order.specs.Layout.{Layout}
use Rattle.transitions.specs.declared.relations.Relation.{Relation}
use Rattle.trans_merge.proofs.Halved.{halved_kept as results_kept}
use Rattle.trans_merge.specs.Gathered.{AreSingle}
use Rattle.trans_merge.specs.Halves.{AreHalvedOf, AreHalved}
use Rattle.trans_merge.proofs.Copied.{copies_are}

module _ (o : Layout) (bound : ℕ) (old new : List Node) (ro : IsReduced old) (rn : IsReduced new) (k : Keeps old new)
    (task : TaskParts) (single : List Relation) (is : AreSingle task o old single) where
  cost_kept : (cost : ℕ) (results : List Relation) → AreHalvedOf task o bound old single cost results → AreHalvedOf task o bound new single cost results
  cost_kept cost results h = record {
    members = h.members;
    copies = h.copies;
    results_are = results_kept o bound old new ro rn k h.members results (copies_are task o old single cost h.members is h.copies) h.results_are;
  }

  -- so those of several costs
  pub halved_kept : (costs : List ℕ) (n : ℕ) (starts : List ℕ) (joined : List Relation)
      → AreHalved task o bound old single costs n starts joined
      → AreHalved task o bound new single costs n starts joined
  halved_kept costs n starts joined h i lt = cost_kept (get_or costs i 0) (slice_range joined (get_or starts i 0) (get_or starts (i + 1) 0)) (h i lt)
