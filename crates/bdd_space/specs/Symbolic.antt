-- A task, a table, and sets of the task's states by number.
use Rattle.std.specs.Prelude.{◌≡◌, ◌↔◌, ℕ, Bool, false, IsTrue, ◌∷◌, ◌++◌, List, map, Option, Some, None, IfSome}
use Rattle.symk_task.specs.declared.parts.TaskParts.{TaskParts}
use Rattle.symk_task.specs.Plans.{IsInitial}
use Rattle.symk_task.specs.Fits.{Fits}
use Rattle.task_run.specs.declared.counting.Counting.{Counting}
use Rattle.task_run.specs.Counted.{AreRulesOf}
use Rattle.task_system.specs.System.{Listed}
use Rattle.task_system.specs.Computed.{system_of}
use Rattle.bdd_table.specs.declared.node.Node.{Node}
use Rattle.bdd_table.specs.Diagram.{IsReduced, Keeps}
use Rattle.var_order.specs.Layout.{Layout, IsOrderOf}
use Rattle.trans_merge.specs.declared.relations.OperatorRelations.{OperatorRelations}
use Rattle.trans_merge.specs.Relations.{AreRelationsOf}
use Rattle.trans_merge.specs.Roots.{roots_of as relation_roots}
use Rattle.bdd_sets.specs.declared.stepping.StepFacts.{StepFacts}
use Rattle.bdd_sets.specs.Steps.{AreStepFacts}
use Rattle.bdd_space.specs.declared.slots.Slot.{Slot}
use Rattle.bdd_space.specs.declared.symbolic.Own.{Own}
use Rattle.bdd_space.specs.Slots.{set_at, root_of}
use Rattle.bdd_space.specs.Members.{has_state, IsKnownSet, HasThose}

pub record Symbolic : Type 0 where
  pub task : TaskParts
  pub rules : List Counting
  pub order : Layout
  pub nodes : List Node
  pub own : Own
  pub relations : OperatorRelations
  pub steps : StepFacts
  pub sets : List Slot
  pub last : ℕ

-- whether the Id, if there is one, has the state
abbrev pub in_set : Layout → List Node → Option ℕ → List ℕ → Bool
in_set o nodes None s = false
in_set o nodes (Some id) s = has_state o nodes id s

-- the space's own Ids have all states, the initial one, and the goal states
pub record OwnAre (task : TaskParts) (o : Layout) (nodes : List Node) (own : Own) : Type 0 where
  pub all : HasThose o nodes (Listed (system_of task).states) own.all
  pub start : HasThose o nodes (λ s. s ≡ (system_of task).initial) own.start
  pub goals : HasThose o nodes (λ s. IsTrue ((system_of task).goal s)) own.goals

-- each set that there is is a set of states
abbrev pub AreKnownSets : Layout → List Node → List Slot → Type 0
AreKnownSets o nodes sets = (a : ℕ) → IfSome (set_at sets a) (IsKnownSet o nodes)

-- what a space keeps true
pub record IsSpace (e : Symbolic) (start : List ℕ) : Type 0 where
  pub fits : Fits e.task
  pub rules : AreRulesOf e.task e.rules
  pub order : IsOrderOf e.task e.order
  pub reduced : IsReduced e.nodes
  pub own : OwnAre e.task e.order e.nodes e.own
  pub relations : AreRelationsOf e.task e.order e.nodes e.relations
  pub steps : AreStepFacts e.task e.order e.steps
  pub sets : AreKnownSets e.order e.nodes e.sets
  pub initial : IsInitial e.task start

-- the Ids that a space needs: its own, those of its relations, and those of its sets
abbrev pub symbolic_roots : Symbolic → List ℕ
symbolic_roots e = e.own.all ∷ e.own.start ∷ e.own.goals ∷ (relation_roots e.relations ++ map root_of e.sets)

-- the table alone has changed, and each Id that was known means the same
pub record GrowsSymbolic (old new : Symbolic) : Type 0 where
  pub same : new ≡ record old { nodes = new.nodes }
  pub keeps : Keeps old.nodes new.nodes

-- the Id is a set of states of the space, and has those of which P holds
pub record Makes (e : Symbolic) (P : List ℕ → Type 0) (id : ℕ) : Type 0 where
  pub set : IsKnownSet e.order e.nodes id
  pub has : (s : List ℕ) → IsTrue (has_state e.order e.nodes id s) ↔ P s
