-- The roots of relations, which a collection moves.
use Rattle.std.specs.Prelude.{◌≡◌, ℕ, ◌+◌, ◌<◌, ◌++◌, List, length, map, slice_index}
use Rattle.bdd_table.specs.declared.node.Node.{Node}
use Rattle.bdd_table.specs.Collected.{IsMoved}
use Rattle.transitions.specs.declared.relations.Relation.{Relation}
use Rattle.trans_merge.specs.declared.relations.OperatorRelations.{OperatorRelations}

-- the roots of these relations
abbrev pub roots_in : List Relation → List ℕ
roots_in rs = map (λ (r : Relation). r.root) rs

-- all roots: those of the operators' own relations, and behind them those of the joined ones
abbrev pub roots_of : OperatorRelations → List ℕ
roots_of r = roots_in r.single.items ++ roots_in r.joined.items

-- part of the roots, from the first on, was put behind the list
abbrev pub IsPushedInPart : List ℕ → List ℕ → List ℕ → Type 0
IsPushedInPart roots old new = (front : List ℕ) × (rest : List ℕ) × (roots ≡ front ++ rest) × (new ≡ old ++ front)

-- from this place on the list has where each of the roots was moved to
abbrev pub AreMovedTo : List Node → List Node → List ℕ → List ℕ → ℕ → Type 0
AreMovedTo old new roots places from = (i : ℕ) → i < length roots → IsMoved old new (slice_index roots i) (slice_index places (from + i))

-- the relation with another root
abbrev pub with_new_root : Relation → ℕ → Relation
with_new_root r x = record r { root = x }
