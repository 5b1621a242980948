-- What merged relations are made of.
use Rattle.std.specs.Prelude.{◌≡◌, ◌≢◌, ℕ, Bool, ◌+◌, ◌/◌, ◌<◌, ◌≤◌, ◌↔◌, ◌⊎◌, [], ◌∷◌, ◌++◌, List, length}
use Rattle.bdd_table.specs.declared.node.Node.{Node}
use Rattle.bdd_table.specs.Diagram.{Bits, means}
use Rattle.var_order.specs.Layout.{Layout}
use Rattle.var_order.specs.Codes.{IsStateOf}
use Rattle.transitions.specs.declared.relations.Relation.{Relation}
use Rattle.transitions.specs.Ready.{IsReadyRelation}
use Rattle.transitions.specs.Relations.{Connects, IsStepSet, Successor, Predecessor}
use Rattle.trans_merge.specs.Size.{HasAtMost}
use Rattle.trans_merge.specs.Widened.{united}

-- the relation is known to the table and is a set of steps
pub record IsRelation (o : Layout) (nodes : List Node) (r : Relation) : Type 0 where
  pub known : r.root < length nodes
  pub ready : IsReadyRelation r
  pub steps : IsStepSet o r.touched.items (means nodes r.root)

-- the relation has a step from one state to the other
abbrev pub LeadsByRelation : Layout → List Node → List ℕ → List ℕ → Relation → Type 0
LeadsByRelation o nodes s t r = Connects o r.touched.items (means nodes r.root) s t

-- some relation of the list has a step from one state to the other
abbrev pub SomeLeads : Layout → List Node → List ℕ → List ℕ → List Relation → Type 0
SomeLeads o nodes s t [] = ⊥
SomeLeads o nodes s t (r ∷ rs) = LeadsByRelation o nodes s t r ⊎ SomeLeads o nodes s t rs

-- some relation of the list leads to the state from a member of the set
abbrev pub SomeSuccessor : Layout → List Node → (Bits → Bool) → List ℕ → List Relation → Type 0
SomeSuccessor o nodes set t [] = ⊥
SomeSuccessor o nodes set t (r ∷ rs) = Successor o r.touched.items (means nodes r.root) set t ⊎ SomeSuccessor o nodes set t rs

-- some relation of the list leads from the state to a member of the set
abbrev pub SomePredecessor : Layout → List Node → (Bits → Bool) → List ℕ → List Relation → Type 0
SomePredecessor o nodes set s [] = ⊥
SomePredecessor o nodes set s (r ∷ rs) = Predecessor o r.touched.items (means nodes r.root) set s ⊎ SomePredecessor o nodes set s rs

-- the relation, in the new list, has the steps of a and b in the old, and no others
pub record IsJoined (o : Layout) (old : List Node) (a b : Relation) (new : List Node) (r : Relation) : Type 0 where
  pub relation : IsRelation o new r
  pub touched : r.touched.items ≡ united o a.touched.items b.touched.items
  pub leads : (s t : List ℕ) → IsStateOf o s → IsStateOf o t → LeadsByRelation o new s t r ↔ (LeadsByRelation o old s t a ⊎ LeadsByRelation o old s t b)

-- The relation, in the new list, has the steps of the members in the old, and no others. If it is made of two or more, it has
-- at most so many nodes.
pub record IsMerged (o : Layout) (bound : ℕ) (old new : List Node) (members : List Relation) (r : Relation) : Type 0 where
  pub relation : IsRelation o new r
  pub some : 1 ≤ length members
  pub leads : (s t : List ℕ) → IsStateOf o s → IsStateOf o t → LeadsByRelation o new s t r ↔ SomeLeads o old s t members
  pub alone : (m : Relation) → members ≡ m ∷ [] → r ≡ m
  pub within : 2 ≤ length members → HasAtMost new r.root bound

-- The results are made, one after the other, of parts of the members that follow each other and leave none out: each member is
-- in exactly one of them.
pub data Merges (o : Layout) (bound : ℕ) (old : List Node) : List Relation → List Node → List Relation → Type 0 where
  none : (new : List Node) → Merges o bound old [] new []
  more : (members part results : List Relation) (new : List Node) (r : Relation) → Merges o bound old members new results → IsMerged o bound old new part r → Merges o bound old (members ++ part) new (results ++ r ∷ [])

-- each list is one relation, and these are joined to one with at most so many nodes
abbrev pub JoinsBoth : Layout → List Node → List Relation → List Relation → ℕ → List Node → Relation → Type 0
JoinsBoth o old left right bound new joined =
    (a : Relation) × (b : Relation) × (left ≡ a ∷ []) × (right ≡ b ∷ []) × IsJoined o old a b new joined × HasAtMost new joined.root bound

-- one of the lists is not one relation, or the new list has both joined, and past the bound
abbrev pub StayApart : Layout → List Node → List Relation → List Relation → ℕ → List Node → Type 0
StayApart o old left right bound new =
    ((length left ≢ 1) ⊎ (length right ≢ 1))
    ⊎ ((a : Relation) × (b : Relation) × (joined : Relation) × (left ≡ a ∷ []) × (right ≡ b ∷ []) × IsJoined o old a b new joined × (HasAtMost new joined.root bound → ⊥))

-- both lists were joined to one relation, within the bound, or stand one after the other where they stay apart
abbrev pub Combines : Layout → List Node → List Relation → List Relation → ℕ → List Node → List Relation → Type 0
Combines o old left right bound new results =
    ((joined : Relation) × (results ≡ joined ∷ []) × JoinsBoth o old left right bound new joined)
    ⊎ ((results ≡ left ++ right) × StayApart o old left right bound new)

-- the first part has half of all, rounded down, and there are two at least
pub record AreRelationHalves (left right : List Relation) : Type 0 where
  pub some : 1 ≤ length left
  pub half : length left ≡ (length left + length right) / 2

-- The results of joining by halves. What came of the first half of the members stands before what came of the second, but where
-- each half came to one relation and both joined have at most so many nodes, the joined one stands for all. What is joined on the
-- way is in the list, also what has too many nodes.
pub data IsHalved (o : Layout) (bound : ℕ) (nodes : List Node) : List Relation → List Relation → Type 0 where
  nothing : IsHalved o bound nodes [] []
  single : (r : Relation) → IsHalved o bound nodes (r ∷ []) (r ∷ [])
  joins : (left right : List Relation) (a b joined : Relation) → AreRelationHalves left right
      → IsHalved o bound nodes left (a ∷ []) → IsHalved o bound nodes right (b ∷ [])
      → IsJoined o nodes a b nodes joined → HasAtMost nodes joined.root bound
      → IsHalved o bound nodes (left ++ right) (joined ∷ [])
  apart : (left right xs ys : List Relation) → AreRelationHalves left right → IsHalved o bound nodes left xs
      → IsHalved o bound nodes right ys → StayApart o nodes xs ys bound nodes
      → IsHalved o bound nodes (left ++ right) (xs ++ ys)
