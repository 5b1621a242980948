-- What a walk does to what is owed.
use Rattle.std.specs.Prelude.{ℕ, ◌≤◌, Bool, List, Option}
use Rattle.space_api.specs.View.{View}
use Rattle.symk_task.specs.declared.parts.Mode.TheVariants.{TopK}
use Rattle.lazy_plans.specs.Law.{Gave, top, PendsAlike as OwesAsBefore}
use Rattle.cost_layers.specs.Layers.{known_of, KeepsSet}
use Rattle.cost_layers.specs.declared.layers.Layers.{Layers}
use Rattle.plan_cuts.specs.declared.Cut.{Cut}
use Rattle.plan_cuts.specs.Entries.{Owed, Lawful}
use Rattle.reconstruct.specs.Entries.{plains, SetIn, member_in}
use Rattle.reconstruct.specs.declared.entries.Entry.{Entry}

-- the sets of the entries are none that the layers keep
abbrev pub AreEntriesApart : {Set : Type 0} → List (Entry Set) → Layers Set → Type 0
AreEntriesApart {Set} es l = (a : Set) → SetIn es a → ¬ KeepsSet l a

-- the entries and the cuts not yet drawn are lawful, by these layers
abbrev pub IsLawful : {Set : Type 0} → View Set → Layers Set → Layers Set → ℕ → List (Entry Set) → (Cut → Bool) → Type 0
IsLawful v front back listed es undrawn = Lawful v.system (member_in v front) (member_in v back) (known_of front) (known_of back) listed (plains v (member_in v front) es) undrawn

abbrev pub IsOwed : {Set : Type 0} → View Set → Layers Set → Layers Set → ℕ → List (Entry Set) → (Cut → Bool) → List ℕ → Type 0
IsOwed v front back listed es undrawn p = Owed v.system (known_of back) listed (plains v (member_in v front) es) undrawn p

-- whatever cost is listed, and whatever isn't drawn: the queue stays lawful, and owes what it owed
abbrev pub OwesOn : {Set : Type 0} → View Set → View Set → Layers Set → Layers Set → List (Entry Set) → List (Entry Set) → Type 0
OwesOn v w front back old new = (listed : ℕ) (undrawn : Cut → Bool) → IsLawful v front back listed old undrawn
    → IsLawful w front back listed new undrawn × OwesAsBefore (IsOwed v front back listed old undrawn) (IsOwed w front back listed new undrawn)

-- whatever cost is listed, whatever isn't drawn, and whatever greatest cost has room for the listed one: the queue stays
-- lawful, and gave the plan
abbrev pub GaveFrom : {Set : Type 0} → View Set → View Set → Layers Set → Layers Set → List (Entry Set) → List (Entry Set) → List ℕ → Type 0
GaveFrom v w front back old new p = (listed : ℕ) (most : Option ℕ) → listed ≤ top most → (undrawn : Cut → Bool) → IsLawful v front back listed old undrawn
    → IsLawful w front back listed new undrawn × Gave v.system TopK most (IsOwed v front back listed old undrawn) (IsOwed w front back listed new undrawn) p
