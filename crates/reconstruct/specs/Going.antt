-- On to the next cost.
use Rattle.std.specs.Prelude.{◌≡◌, ℕ, ◌≤◌, ◌↔◌, ◌⊎◌, false, List, [], Option, Some, None}
use Rattle.space_api.specs.View.{View}
use Rattle.cost_layers.specs.declared.layers.Layers.{Layers}
use Rattle.lazy_plans.specs.Law.{top, NoneLeft, MayStop}
use Rattle.lazy_plans.specs.declared.stop.Stop.TheVariants.{CostRange}
use Rattle.plan_cuts.specs.Drawing.{Above}
use Rattle.reconstruct.specs.Turned.{HasSingle}
use Rattle.reconstruct.specs.declared.entries.Entry.{Entry}
use Rattle.bidirectional.specs.Both.{IsBeneath, front_layers, back_layers}
use Rattle.bidirectional.specs.declared.search.Both.{Both}
use Rattle.reconstruct.specs.Listing.{IsListing, OwedAt}
use Rattle.reconstruct.specs.declared.drawing.Place.{Place}
use Rattle.reconstruct.specs.declared.going.Filled.{Filled}
use Rattle.reconstruct.specs.declared.going.Filled.TheVariants.{Ready, Never, Beyond}

abbrev pub place_cost : Option Place → Option ℕ
place_cost None = None
place_cost (Some place) = Some place.cost

-- nothing is listed yet, or no cut is left
abbrev pub Rests : Option Place → Type 0
Rests None = Unit {0}
Rests (Some place) = place.left ≡ false

-- an entry stands in the queue, or there is none and no cut is left
abbrev pub HasMore : {Set : Type 0} → List (Entry Set) → Option Place → Type 0
HasMore queue listed = HasSingle queue ⊎ ((queue ≡ []) × Rests listed)

-- the next cost is listed, an entry stands in the queue, and what is owed is each plan above the cost that was listed
pub record IsFilled {Set : Type 0} (v w : View Set) (Uses : Set → Type 0) (front back : Layers Set) (most : Option ℕ) (old : Option Place) (place : Place) (queue : List (Entry Set)) : Type 0 where
  pub listing : IsListing w Uses front back place queue
  pub some : HasSingle queue
  pub wanted : place.cost ≤ top most
  pub owes : (p : List ℕ) → OwedAt w front back place queue p ↔ Above v.system (place_cost old) p

abbrev pub IsCostListed : {Set : Type 0} → View Set → View Set → (Set → Type 0) → Layers Set → Layers Set → Option ℕ
    → Option Place → Option Place → List (Entry Set) → Type 0
IsCostListed v w Uses front back most old None queue = ⊥
IsCostListed v w Uses front back most old (Some place) queue = IsFilled v w Uses front back most old place queue

-- what going on gives
abbrev pub GoesOnByCuts : {Set : Type 0} → View Set → View Set → (Set → Type 0) → Layers Set → Layers Set → Option ℕ
    → Option Place → Option Place → List (Entry Set) → Filled → Type 0
GoesOnByCuts v w Uses front back most old new queue Ready = IsCostListed v w Uses front back most old new queue
GoesOnByCuts v w Uses front back most old new queue Never = (new ≡ old) × (queue ≡ []) × NoneLeft v.system most (Above v.system (place_cost old))
GoesOnByCuts v w Uses front back most old new queue Beyond = (new ≡ old) × (queue ≡ []) × MayStop v.system most (Above v.system (place_cost old)) CostRange

-- the same, by the search from both ends
abbrev pub GoesOnFromBoth : {Set P : Type 0} → View Set → View Set → Both Set P → Option ℕ → Option Place → Option Place → List (Entry Set) → Filled → Type 0
GoesOnFromBoth v w both most old new queue r = GoesOnByCuts v w (IsBeneath both) (front_layers both) (back_layers both) most old new queue r
