-- A prefix whose children are found one after the other, and what stands in its place then.
use Rattle.std.specs.Prelude.{◌≡◌, ℕ, ◌-◌, ◌<◌, ◌≤◌, ◌⊎◌, Bool, false, List, [], ◌∷◌, ◌++◌, length, take, Option, Some, None}
use Rattle.task_system.specs.System.{State, System}
use Rattle.space_api.specs.View.{View, HasMember}
use Rattle.space_api.specs.Frames.{Stays}
use Rattle.cost_layers.specs.declared.layers.Layers.{Layers}
use Rattle.plan_cuts.specs.Entries.{PlainEntry, into}
use Rattle.reconstruct.specs.Entries.{plains_of, plains, children_by, child_by, LeadOn, MakesEntries, member_in}
use Rattle.reconstruct.specs.Ways.{IsNewSet}
use Rattle.reconstruct.specs.Turned.{HasSingle}
use Rattle.reconstruct.specs.declared.entries.Prefix.{Prefix}
use Rattle.reconstruct.specs.declared.entries.Partial.{Partial as PartialPrefix}
use Rattle.reconstruct.specs.declared.entries.Entry.{Entry}
use Rattle.reconstruct.specs.declared.entries.Entry.TheVariants.{Before, Partial}
use Rattle.reconstruct.specs.declared.partial.Found.{Found}

-- each operator costs something
abbrev pub CostsSome : System → Type 0
CostsSome y = (k : ℕ) → k < y.operators → 0 < y.cost k

-- c is the prefix e with a set of its own, and these operators are left
pub record IsPartialOf {Set : Type 0} (v w : View Set) (e : Prefix Set) (left : List ℕ) (c : PartialPrefix Set) : Type 0 where
  pub new : IsNewSet v w c.prefix.set
  pub same : (s : State) → w.has c.prefix.set s ≡ v.has e.set s
  pub cost_is : c.prefix.cost ≡ e.cost
  pub operators_are : c.prefix.operators.items ≡ e.operators.items
  pub after_is : c.prefix.after ≡ e.after
  pub left_are : c.left.items ≡ left

-- it was put after the others
abbrev pub PutsPartial : {Set : Type 0} → View Set → View Set → Prefix Set → List ℕ → List (Entry Set) → List (Entry Set) → Type 0
PutsPartial {Set} v w e left old new = (c : PartialPrefix Set) × IsPartialOf v w e left c × (new ≡ old ++ Partial c ∷ [])

-- the states from which the operator leads into the prefix's set, in the layer of the cost that is left
abbrev pub before_by : {Set : Type 0} → View Set → Layers Set → Prefix Set → ℕ → State → Bool
before_by v front e op = into v.system (member_in v front) (v.has e.set) e.cost op

-- a is a new set of these states, and there is one; or there is none
abbrev pub FindsChild : {Set : Type 0} → View Set → View Set → Layers Set → Prefix Set → ℕ → Option Set → Type 0
FindsChild v w front e op None = Stays v w × ((s : State) → before_by v front e op s ≡ false)
FindsChild v w front e op (Some a) = IsNewSet v w a × HasMember w a × LeadOn w a (op ∷ e.operators.items)
    × (v.system.cost op ≤ e.cost) × ((s : State) → w.has a s ≡ before_by v front e op s)

-- the children by these operators
abbrev pub children_left : {Set : Type 0} → View Set → Layers Set → Prefix Set → List ℕ → List PlainEntry
children_left v front e ks = children_by v.system (member_in v front) (v.has e.set) e.cost e.operators.items e.after ks

-- the last child is found; or there is none
abbrev pub FindsLast : {Set : Type 0} → View Set → View Set → Layers Set → PartialPrefix Set → Option (Found Set) → Type 0
FindsLast v w front e None = Stays v w × (children_left v front e.prefix e.left.items ≡ [])
FindsLast v w front e (Some d) = FindsChild v w front e.prefix d.op (Some d.set) × (d.op < v.system.operators)
    × (d.before ≤ length e.left.items) × (children_left v front e.prefix e.left.items
    ≡ children_left v front e.prefix (take d.before e.left.items)
    ++ child_by v.system (member_in v front) (v.has e.prefix.set) e.prefix.cost e.prefix.operators.items e.prefix.after d.op)

-- the prefix c grows out of e by the operator, from this set on, in ring 0
pub record GrownFirst {Set : Type 0} (v : View Set) (e : Prefix Set) (op : ℕ) (set : Set) (c : Prefix Set) : Type 0 where
  pub set_is : c.set ≡ set
  pub cost_is : c.cost ≡ e.cost - v.system.cost op
  pub ring_is : c.ring ≡ 0
  pub operators_are : c.operators.items ≡ op ∷ e.operators.items
  pub after_is : c.after ≡ e.after

-- the prefix with the operators before the one that was found, and the child
abbrev pub PartsInto : {Set : Type 0} → View Set → View Set → PartialPrefix Set → Set → ℕ → ℕ → List (Entry Set) → Type 0
PartsInto {Set} v w e set op before es = (r : PartialPrefix Set) × (c : Prefix Set)
    × IsPartialOf v w e.prefix (take before e.left.items) r × GrownFirst v e.prefix op set c × (es ≡ Partial r ∷ Before c ∷ [])

-- the entries were made, and stand for the same as the prefix whose children are still to be found; the last one
-- stands for itself alone
abbrev pub ArePartsOf : {Set : Type 0} → View Set → View Set → Layers Set → PartialPrefix Set → List (Entry Set) → Type 0
ArePartsOf v w front e es = MakesEntries v w es × (plains w (member_in v front) es ≡ plains_of v (member_in v front) (Partial e))
    × ((es ≡ []) ⊎ HasSingle es)

-- by the same layers the queue stands for the same
abbrev pub StandsForSame : {Set : Type 0} → View Set → View Set → Layers Set → List (Entry Set) → List (Entry Set) → Type 0
StandsForSame v w front old new = plains w (member_in v front) new ≡ plains v (member_in v front) old
