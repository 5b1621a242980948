-- A child of an entry, and where it is put.
use Rattle.std.specs.Prelude.{◌≡◌, ℕ, ◌-◌, ◌^◌, ◌<◌, ◌≤◌, ◌⊎◌, List, [], ◌∷◌, ◌++◌}
use Rattle.std.specs.List.{AllByRecursion}
use Rattle.task_system.specs.System.{State}
use Rattle.space_api.specs.View.{View}
use Rattle.cost_layers.specs.Layers.{Held}
use Rattle.cost_layers.specs.declared.layers.Layers.{Layers}
use Rattle.plan_cuts.specs.Growing.{Added, Gathered}
use Rattle.reconstruct.specs.Entries.{entry_cost, ring_in, as_plain_entry, plains, EntryOk, MakesEntries, member_in, Ready}
use Rattle.reconstruct.specs.Ways.{IsLeastRing, IsFirstRing}
use Rattle.reconstruct.specs.Moves.{AreMoves}
use Rattle.reconstruct.specs.declared.moves.Move.{Move}
use Rattle.reconstruct.specs.declared.entries.Prefix.{Prefix}
use Rattle.reconstruct.specs.declared.entries.Suffix.{Suffix}
use Rattle.reconstruct.specs.declared.entries.Entry.{Entry}
use Rattle.reconstruct.specs.declared.entries.Entry.TheVariants.{Before, After}

-- the prefix c grows out of e by an operator of cost w, from this set on
pub record GrownBefore {Set : Type 0} (v : View Set) (front : Layers Set) (e : Prefix Set) (op w : ℕ) (set : Set) (c : Prefix Set) : Type 0 where
  pub set_is : c.set ≡ set
  pub cost_is : c.cost ≡ e.cost - w
  pub operators_are : c.operators.items ≡ op ∷ e.operators.items
  pub after_is : c.after ≡ e.after
  pub least : IsLeastRing v front (e.cost - w) set c.ring
  pub fits : c.ring < 2 ^ 64

-- the suffix c grows out of e by an operator of cost w, to this state
pub record GrownAfter {Set : Type 0} (v : View Set) (back : Layers Set) (e : Suffix) (op w : ℕ) (state : State) (c : Suffix) : Type 0 where
  pub state_is : c.state ≡ state
  pub cost_is : c.cost ≡ e.cost - w
  pub operators_are : c.operators.items ≡ e.operators.items ++ op ∷ []
  pub least : IsFirstRing v back (e.cost - w) state c.ring
  pub fits : c.ring < 2 ^ 64

-- the suffix c grows out of e by this move
pub record GrownBy (e : Suffix) (m : Move) (c : Suffix) : Type 0 where
  pub state_is : c.state ≡ m.state
  pub cost_is : c.cost ≡ m.cost
  pub ring_is : c.ring ≡ m.ring
  pub operators_are : c.operators.items ≡ e.operators.items ++ m.op ∷ []

-- c was put after the others, with the falling ones where its cost or ring is less than these
abbrev pub IsPut : {Set : Type 0} → ℕ → ℕ → Entry Set → List (Entry Set) → List (Entry Set) → List (Entry Set) → List (Entry Set) → Type 0
IsPut cost ring c level falling level2 falling2 =
    (((entry_cost c < cost) ⊎ (ring_in c < ring)) × (level2 ≡ level) × (falling2 ≡ falling ++ c ∷ []))
    ⊎ ((cost ≤ entry_cost c) × (ring ≤ ring_in c) × (level2 ≡ level ++ c ∷ []) × (falling2 ≡ falling))

-- the child that grows out of e was put
abbrev pub PutsBefore : {Set : Type 0} → View Set → Layers Set → Prefix Set → ℕ → ℕ → Set → List (Entry Set) → List (Entry Set) → List (Entry Set) → List (Entry Set) → Type 0
PutsBefore {Set} v front e op w set level falling level2 falling2 = (c : Prefix Set) × GrownBefore v front e op w set c × IsPut e.cost e.ring (Before c) level falling level2 falling2

abbrev pub PutsAfter : {Set : Type 0} → View Set → Layers Set → Suffix → ℕ → ℕ → State → List (Entry Set) → List (Entry Set) → List (Entry Set) → List (Entry Set) → Type 0
PutsAfter v back e op w state level falling level2 falling2 = (c : Suffix) × GrownAfter v back e op w state c × IsPut e.cost e.ring (After c) level falling level2 falling2

-- the same by a move
abbrev pub PutsBy : {Set : Type 0} → Suffix → Move → List (Entry Set) → List (Entry Set) → List (Entry Set) → List (Entry Set) → Type 0
PutsBy e m level falling level2 falling2 = (c : Suffix) × GrownBy e m c × IsPut e.cost e.ring (After c) level falling level2 falling2

-- what was made so far and what is more was made since
abbrev pub MakesOn : {Set : Type 0} → View Set → View Set → List (Entry Set) → List (Entry Set) → Type 0
MakesOn {Set} v w old new = (u : View Set) → MakesEntries u v old → MakesEntries u w new

-- where the layers are right, the child by the operator was added, if there is one
abbrev pub AddsChild : {Set : Type 0} → View Set → View Set → Layers Set → Layers Set → Entry Set → ℕ → List (Entry Set) → List (Entry Set) → List (Entry Set) → List (Entry Set) → Type 0
AddsChild v w front back e op level falling level2 falling2 = (f b listed : ℕ) → AllByRecursion (EntryOk v) level → AllByRecursion (EntryOk v) falling
    → Ready v.system v front back f b listed (as_plain_entry v e)
    → Added v.system (member_in v front) (member_in v back) (as_plain_entry v e) op (plains v (member_in v front) level) (plains v (member_in v front) falling)
    (plains w (member_in v front) level2) (plains w (member_in v front) falling2)

-- by a prefix, whatever layers stand behind it
abbrev pub AddsBefore : {Set : Type 0} → View Set → View Set → Layers Set → Prefix Set → ℕ → List (Entry Set) → List (Entry Set) → List (Entry Set) → List (Entry Set) → Type 0
AddsBefore {Set} v w front e op level falling level2 falling2 = (back : Layers Set) → Held v back → AddsChild v w front back (Before e) op level falling level2 falling2

-- where the layers are right, all children were gathered
abbrev pub Gathers : {Set : Type 0} → View Set → View Set → Layers Set → Layers Set → Entry Set → List (Entry Set) → List (Entry Set) → Type 0
Gathers v w front back e level falling = (f b listed : ℕ)
    → Ready v.system v front back f b listed (as_plain_entry v e)
    → Gathered v.system (member_in v front) (member_in v back) (as_plain_entry v e) (plains w (member_in v front) level)
    (plains w (member_in v front) falling)

-- of a prefix, whatever layers stand behind it
abbrev pub GathersBefore : {Set : Type 0} → View Set → View Set → Layers Set → Prefix Set → List (Entry Set) → List (Entry Set) → Type 0
GathersBefore {Set} v w front e level falling = (back : Layers Set) → Held v back → Gathers v w front back (Before e) level falling

-- of a suffix, whatever layers stand in front
abbrev pub GathersAfter : {Set : Type 0} → View Set → Layers Set → Suffix → List (Entry Set) → List (Entry Set) → Type 0
GathersAfter {Set} v back e level falling = (front : Layers Set) → Gathers v v front back (After e) level falling

-- in whatever view and by whatever layers these are all moves from the suffix's state: the children were made
abbrev pub MakesMoves : {Set : Type 0} → Suffix → List Move → List (Entry Set) → Type 0
MakesMoves {Set} e moves es = (v : View Set) (back : Layers Set) → EntryOk v (After e) → AreMoves v back e.cost e.state moves → MakesEntries v v es

-- and where they are right, all children were gathered
abbrev pub GathersMoves : {Set : Type 0} → Suffix → List Move → List (Entry Set) → List (Entry Set) → Type 0
GathersMoves {Set} e moves level falling = (v : View Set) (back : Layers Set) → EntryOk v (After e) → AreMoves v back e.cost e.state moves → GathersAfter v back e level falling

-- the entries are new ones: all children, the falling ones last
abbrev pub Expands : {Set : Type 0} → View Set → View Set → Layers Set → Layers Set → Entry Set → List (Entry Set) → Type 0
Expands {Set} v w front back e es = MakesEntries v w es
    × ((level : List (Entry Set)) × (falling : List (Entry Set)) × (es ≡ level ++ falling)
    × Gathers v w front back e level falling)
