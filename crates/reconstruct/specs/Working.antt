-- What an engine owes and keeps from one step to the next.
use Rattle.std.specs.Prelude.{◌≡◌, ℕ, ◌+◌, ◌<◌, ◌≤◌, ◌⊎◌, ◌↔◌, false, List, [], length, Option, Some, None, Result, Ok, Err}
use Rattle.task_system.specs.System.{System, IsSystemPlan}
use Rattle.space_api.specs.View.{View}
use Rattle.space_api.specs.Owned.{Trades}
use Rattle.cost_layers.specs.declared.layers.Layers.{Layers}
use Rattle.lazy_plans.specs.Law.{top, NoneLeft, MayStop}
use Rattle.lazy_plans.specs.declared.stop.Stop.{Stop}
use Rattle.lazy_plans.specs.declared.stop.Stop.TheVariants.{CostRange}
use Rattle.reconstruct.specs.Entries.{SetIn}
use Rattle.reconstruct.specs.Expansions.{AreRightExpansions}
use Rattle.reconstruct.specs.Turned.{HasSingle}
use Rattle.reconstruct.specs.declared.entries.Entry.{Entry}
use Rattle.bidirectional.specs.Both.{IsBeneath, IsBoth, IsOwnOf, front_layers, back_layers}
use Rattle.bidirectional.specs.declared.search.Both.{Both}
use Rattle.reconstruct.specs.Listing.{IsListing, OwedAt}
use Rattle.reconstruct.specs.declared.drawing.Place.{Place}
use Rattle.reconstruct.specs.declared.next_plan.Agenda.{Agenda}
use Rattle.reconstruct.specs.declared.going.Filled.{Filled}
use Rattle.reconstruct.specs.declared.going.Filled.TheVariants.{Ready, Never, Beyond}

-- nothing is listed yet, nothing of the listed cost is left, or its entries and the cuts that are left are lawful
abbrev pub IsAt : {Set : Type 0} → View Set → (Set → Type 0) → Layers Set → Layers Set → Option Place → List (Entry Set) → Type 0
IsAt v Uses front back None queue = queue ≡ []
IsAt v Uses front back (Some place) queue = ((place.left ≡ false) × (queue ≡ [])) ⊎ IsListing v Uses front back place queue

-- the cost that is listed is one that is wanted
abbrev pub InWantedRange : Option ℕ → Option Place → Type 0
InWantedRange most None = Unit {0}
InWantedRange most (Some place) = place.cost ≤ top most

-- what is owed: every plan before the first cost is listed, then by the queue and the cuts that are left
abbrev pub OwesByCuts : {Set : Type 0} → View Set → Layers Set → Layers Set → Option Place → List (Entry Set) → List ℕ → Type 0
OwesByCuts v front back None queue p = IsSystemPlan v.system p
OwesByCuts v front back (Some place) queue p = OwedAt v front back place queue p

-- the same, by the search from both ends
abbrev pub OwedBy : {Set P : Type 0} → View Set → Both Set P → Agenda Set → List ℕ → Type 0
OwedBy v both agenda p = OwesByCuts v (front_layers both) (back_layers both) agenda.listed agenda.queue p

-- the search stands, the queue and the cuts that are left are lawful, and what is remembered is right
pub record IsWorking {Set P : Type 0} (v : View Set) (both : Both Set P) (agenda : Agenda Set) : Type 0 where
  pub stands : IsBoth v both
  pub at : IsAt v (IsBeneath both) (front_layers both) (back_layers both) agenda.listed agenda.queue
  pub moves : AreRightExpansions v (back_layers both) agenda.memo

-- the sets that are kept by the sides and for the queue
abbrev pub Keeping : {Set : Type 0} → (Set → Type 0) → List (Entry Set) → Set → Type 0
Keeping Owns queue a = Owns a ⊎ SetIn queue a

-- what is owed stays, and no set is lost
pub record Moved {Set : Type 0} (v w : View Set) (Owns Owns2 Uses2 : Set → Type 0) (front back front2 back2 : Layers Set) (listed listed2 : Option Place) (queue queue2 : List (Entry Set)) : Type 0 where
  pub at : IsAt w Uses2 front2 back2 listed2 queue2
  pub trades : Trades v w (Keeping Owns queue) (Keeping Owns2 queue2)
  pub owes : (p : List ℕ) → OwesByCuts w front2 back2 listed2 queue2 p ↔ OwesByCuts v front back listed queue p

-- the same, by the search from both ends
abbrev pub MovesAgenda : {Set P : Type 0} → View Set → View Set → Both Set P → Both Set P → Agenda Set → Agenda Set → Type 0
MovesAgenda v w both both2 old new = Moved v w (IsOwnOf both) (IsOwnOf both2) (IsBeneath both2) (front_layers both) (back_layers both)
    (front_layers both2) (back_layers both2) old.listed new.listed old.queue new.queue

-- the sets of both change hands, and those of the queue
abbrev pub TradesAll : {Set P : Type 0} → View Set → View Set → Both Set P → Both Set P → Agenda Set → Agenda Set → Type 0
TradesAll v w both both2 old new = Trades v w (Keeping (IsOwnOf both) old.queue) (Keeping (IsOwnOf both2) new.queue)

-- an entry stands in the queue, or nothing that is owed is wanted, or all that is owed costs more than 64 bits hold
abbrev pub FillsQueue : {Set : Type 0} → System → Option ℕ → (List ℕ → Type 0) → List (Entry Set) → Filled → Type 0
FillsQueue y most Owing queue Ready = HasSingle queue
FillsQueue y most Owing queue Never = NoneLeft y most Owing
FillsQueue y most Owing queue Beyond = MayStop y most Owing CostRange

-- a turn, and at most two turns more than the plan has operators; none where no plan is left
abbrev pub FewTurns : ℕ → ℕ → Result (Option (List ℕ)) Stop → Type 0
FewTurns old new (Ok (Some p)) = (old < new) × (new ≤ old + length p + 2)
FewTurns old new (Ok None) = new ≡ old
FewTurns old new (Err stop) = Unit {0}
