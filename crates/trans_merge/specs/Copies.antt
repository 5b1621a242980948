-- Copies of relations, and which of them are taken.
use Rattle.std.specs.Prelude.{◌≡◌, ◌≢◌, ℕ, ◌⊎◌, ◌++◌, ◌∷◌, [], List}
use Rattle.symk_task.specs.declared.parts.TaskParts.{TaskParts}
use Rattle.symk_task.specs.Steps.{cost_at}
use Rattle.transitions.specs.declared.relations.Relation.{Relation}
use Rattle.transitions.specs.Ready.{IsReadyRelation}

-- the relation has the root of the other one, and touches the same places
pub record IsCopy (r q : Relation) : Type 0 where
  pub root : q.root ≡ r.root
  pub touched : q.touched.items ≡ r.touched.items
  pub ready : IsReadyRelation q

-- an operator of the cost has a copy of its relation added, and any other changes nothing
abbrev pub TakesTurn : TaskParts → ℕ → ℕ → Relation → List Relation → List Relation → Type 0
TakesTurn task op cost r old new =
    ((cost_at task op ≡ cost) × ((q : Relation) × IsCopy r q × (new ≡ old ++ q ∷ [])))
    ⊎ ((cost_at task op ≢ cost) × (new ≡ old))
