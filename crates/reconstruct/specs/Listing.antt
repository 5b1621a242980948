-- A cost that is being listed, and the drawing of its cuts.
use Rattle.std.specs.Prelude.{◌≡◌, ℕ, ◌+◌, ◌<◌, ◌↔◌, List, [], ◌∷◌, drop, slice_get, Option, Some, None}
use Rattle.task_system.specs.System.{System}
use Rattle.space_api.specs.View.{View}
use Rattle.space_api.specs.Frames.{Kept, Stays}
use Rattle.space_api.specs.Owned.{Trades}
use Rattle.cost_layers.specs.Layers.{known_of}
use Rattle.cost_layers.specs.declared.layers.Layers.{Layers}
use Rattle.plan_cuts.specs.Cuts.{IsNextCut}
use Rattle.plan_cuts.specs.declared.Cut.{Cut}
use Rattle.plan_cuts.specs.Drawing.{undrawn}
use Rattle.reconstruct.specs.Entries.{SetIn}
use Rattle.reconstruct.specs.Turned.{IsQueue, GivesBack}
use Rattle.reconstruct.specs.declared.entries.Entry.{Entry}
use Rattle.reconstruct.specs.Walked.{IsLawful, IsOwed}
use Rattle.reconstruct.specs.Opened.{OpenedEntry}
use Rattle.bidirectional.specs.Both.{IsBeneath, IsBoth, front_layers, back_layers}
use Rattle.bidirectional.specs.declared.search.Both.{Both}
use Rattle.reconstruct.specs.declared.drawing.Place.{Place}
use Rattle.reconstruct.specs.declared.drawing.Drawn.{Drawn}

-- the cuts of this cost that come next after `after`, in order
abbrev pub AreReady : System → ℕ → ℕ → Option Cut → List Cut → Type 0
AreReady y b cost after [] = Unit {0}
AreReady y b cost after (c ∷ cs) = IsNextCut y b cost after (Some c) × AreReady y b cost (Some c) cs

abbrev pub AreReadyAt : System → ℕ → Place → Type 0
AreReadyAt y b place = AreReady y b place.cost place.after place.ready.items

-- the same cost, and the same cuts of it are drawn
pub record IsSame (place place2 : Place) : Type 0 where
  pub cost : place2.cost ≡ place.cost
  pub after : place2.after ≡ place.after
  pub left : place2.left ≡ place.left

-- the queue and the cuts that are left are lawful, and the queue's sets are its own
pub record IsListing {Set : Type 0} (v : View Set) (Uses : Set → Type 0) (front back : Layers Set) (place : Place) (queue : List (Entry Set)) : Type 0 where
  pub queue_is : IsQueue v queue
  pub apart : (a : Set) → SetIn queue a → ¬ Uses a
  pub settled : place.cost < known_of front + known_of back
  pub lawful : IsLawful v front back place.cost queue (undrawn place.left place.after)
  pub ready : AreReadyAt v.system (known_of back) place

-- the same, by the search from both ends
abbrev pub Lists : {Set P : Type 0} → View Set → Both Set P → Place → List (Entry Set) → Type 0
Lists v both place queue = IsListing v (IsBeneath both) (front_layers both) (back_layers both) place queue

-- what is owed of this cost and of dearer ones
abbrev pub OwedAt : {Set : Type 0} → View Set → Layers Set → Layers Set → Place → List (Entry Set) → List ℕ → Type 0
OwedAt v front back place queue p = IsOwed v front back place.cost queue (undrawn place.left place.after) p

-- the cut is the first that is ready, and the entry its first; or no cut follows
abbrev pub DrawsNext : {Set : Type 0} → View Set → View Set → Layers Set → Layers Set → Place → Option (Drawn Set) → Type 0
DrawsNext v w front back place None = Stays v w × IsNextCut v.system (known_of back) place.cost place.after None
DrawsNext v w front back place (Some d) = (slice_get place.ready.items 0 ≡ Some d.cut) × OpenedEntry v w front back place.cost d.cut d.entry

-- the entry is the queue, and the cut the last one that was drawn and no longer ready
pub record PutsOne {Set : Type 0} (v w : View Set) (place place2 : Place) (queue2 : List (Entry Set)) (d : Drawn Set) : Type 0 where
  pub view : w ≡ v
  pub cost : place2.cost ≡ place.cost
  pub after : place2.after ≡ Some d.cut
  pub left : place2.left ≡ place.left
  pub ready : place2.ready.items ≡ drop 1 place.ready.items
  pub queue : queue2 ≡ d.entry ∷ []

-- the entry's set is given back, if it has one, and all else stays
abbrev pub LeavesAll : {Set : Type 0} → View Set → View Set → Place → Place → List (Entry Set) → List (Entry Set) → Drawn Set → Type 0
LeavesAll v w place place2 queue queue2 d = GivesBack v w d.entry × (place2 ≡ place) × (queue2 ≡ queue)

-- all that drawing a cut does: the same cost is listed, it owes what it owed, and no set is lost
pub record Drew {Set : Type 0} (v w : View Set) (Uses : Set → Type 0) (front back : Layers Set) (place place2 : Place) (queue queue2 : List (Entry Set)) : Type 0 where
  pub kept : Kept v w
  pub listing : IsListing w Uses front back place2 queue2
  pub cost : place2.cost ≡ place.cost
  pub trades : Trades v w (SetIn queue) (SetIn queue2)
  pub owes : (p : List ℕ) → OwedAt w front back place2 queue2 p ↔ OwedAt v front back place queue p

-- the same, by the search from both ends, which stands on
abbrev pub Draws : {Set P : Type 0} → View Set → View Set → Both Set P → Place → Place → List (Entry Set) → List (Entry Set) → Type 0
Draws v w both place place2 queue queue2 = IsBoth w both × Drew v w (IsBeneath both) (front_layers both) (back_layers both) place place2 queue queue2
