-- The steps of operators, and which relations have them.
use Rattle.std.specs.Prelude.{◌≡◌, ℕ, ◌<◌, ◌↔◌, List, length, Bool, All}
use Rattle.symk_task.specs.declared.parts.TaskParts.{TaskParts}
use Rattle.symk_task.specs.Steps.{Step, cost_at}
use Rattle.bdd_table.specs.declared.node.Node.{Node}
use Rattle.bdd_table.specs.Diagram.{Bits}
use Rattle.var_order.specs.Layout.{Layout}
use Rattle.var_order.specs.Codes.{IsStateOf}
use Rattle.transitions.specs.declared.relations.Relation.{Relation}
use Rattle.transitions.specs.Relations.{HoldsForState}
use Rattle.trans_merge.specs.Merging.{IsRelation, LeadsByRelation, SomeLeads}

-- an operator of this cost leads from one state to the other
abbrev pub StepOfCost : TaskParts → ℕ → List ℕ → List ℕ → Type 0
StepOfCost task cost s t = (op : ℕ) × (op < length task.operators) × (cost_at task op ≡ cost) × Step task s op t

-- the states to which R leads from a member of the set
abbrev pub ImageBy : Layout → (List ℕ → List ℕ → Type 0) → (Bits → Bool) → List ℕ → Type 0
ImageBy o R set t = (s : List ℕ) × IsStateOf o s × HoldsForState o set s × R s t

-- the states from which R leads to a member of the set
abbrev pub PreimageBy : Layout → (List ℕ → List ℕ → Type 0) → (Bits → Bool) → List ℕ → Type 0
PreimageBy o R set s = (t : List ℕ) × IsStateOf o t × HoldsForState o set t × R s t

-- the relation has the steps of R from state to state, and no others
pub record HasSteps (o : Layout) (nodes : List Node) (R : List ℕ → List ℕ → Type 0) (r : Relation) : Type 0 where
  pub relation : IsRelation o nodes r
  pub leads : (s t : List ℕ) → IsStateOf o s → IsStateOf o t → LeadsByRelation o nodes s t r ↔ R s t

-- the relations together have the steps of R from state to state, and no others
pub record HaveSteps (o : Layout) (nodes : List Node) (R : List ℕ → List ℕ → Type 0) (rs : List Relation) : Type 0 where
  pub relations : All (IsRelation o nodes) rs
  pub leads : (s t : List ℕ) → IsStateOf o s → IsStateOf o t → SomeLeads o nodes s t rs ↔ R s t
