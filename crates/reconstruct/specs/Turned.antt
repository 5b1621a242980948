-- What a turn does to the queue.
use Rattle.std.specs.Prelude.{length, ◌<◌, ◌≡◌, ℕ, ◌<◌, ◌^◌, Bool, true, false, List, [], ◌∷◌, ◌++◌, Option, Some, None}
use Rattle.std.specs.List.{AllByRecursion}
use Rattle.task_system.specs.System.{State, System, RunsInSystem}
use Rattle.space_api.specs.View.{View, Has}
use Rattle.space_api.specs.Owned.{Trades}
use Rattle.cost_layers.specs.declared.layers.Layers.{Layers}
use Rattle.plan_cuts.specs.Entries.{PlainEntry, Goes, GivesPlan, StandsOnLayers}
use Rattle.reconstruct.specs.Entries.{as_plain_entry, plains, operators_in, EntryOk, IsSingle, HasSet, AreDistinct, MakesEntries, member_in, RightSides, Ready}
use Rattle.reconstruct.specs.Ways.{IsFirstRing}
use Rattle.reconstruct.specs.Moves.{IsEnd}
use Rattle.reconstruct.specs.declared.entries.Prefix.{Prefix}
use Rattle.reconstruct.specs.declared.entries.Suffix.{Suffix}
use Rattle.reconstruct.specs.declared.entries.Partial.{Partial as PartialPrefix}
use Rattle.reconstruct.specs.declared.entries.Entry.{Entry}
use Rattle.reconstruct.specs.declared.entries.Entry.TheVariants.{Before, After, Partial}

-- nothing is left to place, and the state is a goal
abbrev pub IsDone : {Set : Type 0} → View Set → Entry Set → Type 0
IsDone v (Before e) = ⊥
IsDone v (After e) = IsEnd v e.cost e.state
IsDone v (Partial e) = ⊥

-- nothing is left before the prefix, and it may begin in the initial state
abbrev pub IsWholePrefix : {Set : Type 0} → View Set → Prefix Set → Type 0
IsWholePrefix v e = (e.cost ≡ 0) × Has v e.set v.system.initial

-- c is the suffix that begins where the prefix is whole
pub record Begun {Set : Type 0} (v : View Set) (back : Layers Set) (e : Prefix Set) (c : Suffix) : Type 0 where
  pub runs : RunsInSystem v.system v.system.initial e.operators.items c.state
  pub cost_is : c.cost ≡ e.after
  pub operators_are : c.operators.items ≡ e.operators.items
  pub least : IsFirstRing v back e.after c.state c.ring
  pub fits : (c.cost < 2 ^ 64) × (c.ring < 2 ^ 64)

-- the suffix that begins, where the entry is a prefix that is whole
abbrev pub BeginsToo : {Set : Type 0} → View Set → Layers Set → Entry Set → Option Suffix → Type 0
BeginsToo v back (After e) None = Unit {0}
BeginsToo v back (After e) (Some c) = ⊥
BeginsToo v back (Partial e) None = Unit {0}
BeginsToo v back (Partial e) (Some c) = ⊥
BeginsToo v back (Before e) None = ¬ IsWholePrefix v e
BeginsToo v back (Before e) (Some c) = IsWholePrefix v e × Begun v back e c

-- it as an entry
abbrev pub begun_entries : {Set : Type 0} → Option Suffix → List (Entry Set)
begun_entries None = []
begun_entries (Some c) = After c ∷ []

-- what a turn gives: a plan where the entry taken is done, else more entries
abbrev pub GoesOrGives : System → (ℕ → State → Bool) → (ℕ → State → Bool) → List PlainEntry → List PlainEntry → Option (List ℕ) → Type 0
GoesOrGives y front back old new None = Goes y front back old new
GoesOrGives y front back old new (Some p) = GivesPlan y front back old new p

abbrev pub given_plan : {Set : Type 0} → Bool → Entry Set → Option (List ℕ)
given_plan true e = Some (operators_in e)
given_plan false e = None

-- the entries were made, and they follow e
abbrev pub MakesFollowers : {Set : Type 0} → View Set → View Set → Layers Set → Layers Set → Entry Set → List (Entry Set) → Bool → Type 0
MakesFollowers v w front back e es done = MakesEntries v w es
    × ((f b listed : ℕ) (others : List PlainEntry) → Ready v.system v front back f b listed (as_plain_entry v e)
    → GoesOrGives v.system (member_in v front) (member_in v back) (others ++ as_plain_entry v e ∷ []) (others ++ plains w (member_in v front) es) (given_plan done e))

-- entries with sets of their own
pub record IsQueue {Set : Type 0} (v : View Set) (es : List (Entry Set)) : Type 0 where
  pub each : AllByRecursion (EntryOk v) es
  pub distinct : AreDistinct es

-- where the layers are right and the entries stand on them, a turn goes on or gives a plan
abbrev pub TurnsEntries : {Set : Type 0} → View Set → View Set → Layers Set → Layers Set → List (Entry Set) → List (Entry Set) → Option (List ℕ) → Type 0
TurnsEntries v w front back old new o = (f b listed : ℕ) → RightSides v.system v front back f b
    → AllByRecursion (StandsOnLayers v.system f b listed) (plains v (member_in v front) old)
    → GoesOrGives v.system (member_in v front) (member_in v back) (plains v (member_in v front) old) (plains w (member_in v front) new) o

-- the queue has this entry last
abbrev pub IsLast : {Set : Type 0} → List (Entry Set) → Entry Set → Type 0
IsLast {Set} es e = (others : List (Entry Set)) × (es ≡ others ++ e ∷ [])

-- an entry that stands last stands for itself alone
abbrev pub EndsSingle : {Set : Type 0} → List (Entry Set) → Type 0
EndsSingle {Set} es = (e : Entry Set) → IsLast es e → IsSingle e

-- a prefix stands last whose children are still to be found
abbrev pub EndsPartial : {Set : Type 0} → List (Entry Set) → Type 0
EndsPartial {Set} es = (e : PartialPrefix Set) × IsLast es (Partial e)

-- an entry stands there, and the last one for itself alone
abbrev pub HasSingle : {Set : Type 0} → List (Entry Set) → Type 0
HasSingle es = (0 < length es) × EndsSingle es

-- the last entry e was taken out of the queue, and the others of the list stand in its place
abbrev pub TakesEntry : {Set : Type 0} → List (Entry Set) → List (Entry Set) → List (Entry Set) → Entry Set → Type 0
TakesEntry {Set} old new es e = (others : List (Entry Set)) × (old ≡ others ++ e ∷ []) × (new ≡ others ++ es)

-- the set of the entry, where it has one, is given_plan back
abbrev pub GivesBack : {Set : Type 0} → View Set → View Set → Entry Set → Type 0
GivesBack v w e = Trades v w (HasSet e) (λ a. ⊥)

-- the last entry gave way to what was made
abbrev pub Replaces : {Set : Type 0} → View Set → View Set → List (Entry Set) → List (Entry Set) → List (Entry Set) → Bool → Option (List ℕ) → Type 0
Replaces {Set} v w old new es done o = (others : List (Entry Set)) × (e : Entry Set) × (old ≡ others ++ e ∷ [])
    × (new ≡ others ++ es) × GivesBack v w e × (o ≡ given_plan done e)
