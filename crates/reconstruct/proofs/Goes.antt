-- On to the next cost.
use Rattle.std.proofs.Common.{◌≡◌, ℕ, ◌+◌, ◌<◌, ◌≤◌, ◌⊎◌, ◌↔◌, inl, inr, Bool, true, false, List, [], Option, Some, None, sym, ap, subst, arith}
use Rattle.task_system.specs.System.{System, IsSystemPlan, cost_in_system}
use Rattle.space_api.specs.View.{View, Valid}
use Rattle.space_api.specs.Owned.{Trades}
use Rattle.space_api.proofs.Trading.{trades_trans, trades_beside}
use Rattle.cost_layers.specs.Layers.{known_of}
use Rattle.cost_layers.specs.declared.layers.Layers.{Layers}
use Rattle.plan_cuts.specs.Entries.{Owed}
use Rattle.reconstruct.specs.Entries.{SetIn, member_in}
use Rattle.reconstruct.specs.declared.entries.Entry.{Entry}
use Rattle.reconstruct.specs.Walked.{IsLawful, IsOwed}
use Rattle.plan_cuts.specs.Drawing.{undrawn, Above}
use Rattle.plan_cuts.proofs.Draws.{next_lawful, next_owed}
use Rattle.reconstruct.specs.Sides.{AreRightLayers, IsNextCost}
use Rattle.reconstruct.specs.Listing.{AreReady, IsListing, OwedAt}
use Rattle.reconstruct.specs.declared.drawing.Place.{Place}
use Rattle.reconstruct.proofs.Placing.{sides_of, at_place}
use Rattle.reconstruct.specs.Going.{place_cost, HasMore, IsFilled}

-- a new cost, nothing drawn
pub record IsFresh (place : Place) (cost : ℕ) : Type 0 where
  pub cost_is : place.cost ≡ cost
  pub after : place.after ≡ None
  pub left : place.left ≡ true
  pub ready : place.ready.items ≡ []

pub first_listing : {Set : Type 0} {v : View Set} {Uses : Set → Type 0} {front back : Layers Set}
    {above most : Option ℕ} {cost : ℕ} {place : Place} {y : System} → IsFresh place cost
    → AreRightLayers v front back
    → IsNextCost y above most front back cost → IsListing v Uses front back place []
first_listing {v = v} {front = front} {back = back} {cost = cost} {place = place} f r n = record {
  queue_is = record { each = tt; distinct = tt };
  apart = λ a h. absurd h;
  settled = subst (λ (c : ℕ). c < known_of front + known_of back) (sym f.cost_is) n.settled;
  lawful = at_place (λ c o x. IsLawful v front back c [] (undrawn x o)) place cost None true f.cost_is f.after f.left
      (next_lawful v.system (member_in v front) (member_in v back) (known_of front) (known_of back) cost
      (sides_of v front back r).tables);
  ready = subst (AreReady v.system (known_of back) place.cost place.after) (sym f.ready) tt;
}

from_cost : (y : System) (l : Option ℕ) (q p : List ℕ) → Above y l q → IsSystemPlan y p → cost_in_system y q ≤ cost_in_system y p → Above y l p
from_cost y None q p h plan le = plan
from_cost y (Some c) q p h plan le = (plan, omega (arith, h.1, le))

module _ {Set : Type 0} (v v1 w : View Set) (Uses : Set → Type 0) (front back : Layers Set) (most : Option ℕ)
    (old : Option Place) (cost : ℕ) (place : Place) (queue : List (Entry Set)) (sys : v1.system ≡ v.system)
    (w_sys : w.system ≡ v.system) (n : IsNextCost v.system (place_cost old) most front back cost)
    (l : IsListing w Uses front back place queue) (same : place.cost ≡ cost)
    (start : Place) (f : IsFresh start cost) (owes : (p : List ℕ) → OwedAt w front back place queue p ↔ OwedAt v1 front back start [] p) where
  first_owed : (p : List ℕ) → OwedAt v1 front back start [] p ↔ Above v.system (place_cost old) p
  first_owed p =
      let base = next_owed v.system (known_of back) (known_of back) (place_cost old) cost n.least
      (λ q plan le. from_cost v.system (place_cost old) n.plan.0 q n.plan.1 plan (omega (arith, n.plan.2, le)))
      p in
      at_place (λ c o x. IsOwed v1 front back c [] (undrawn x o) p ↔ Above v.system (place_cost old) p) start cost None true f.cost_is f.after f.left
      (subst (λ (y : System). Owed y (known_of back) cost [] (undrawn true None) p ↔ Above v.system (place_cost old) p) (sym sys) base)

  all_owed : (p : List ℕ) → OwedAt w front back place queue p ↔ Above v.system (place_cost old) p
  all_owed p = ((λ h. (first_owed p).0 ((owes p).0 h)), (λ h. (owes p).1 ((first_owed p).1 h)))

  -- the cost has a plan, so a cut was there
  not_empty : (queue ≡ []) × (place.left ≡ false) → ⊥
  not_empty h =
      let p = n.plan in
      let o = (all_owed p.0).1 p.1 in
      let o2 = subst (λ (q : List (Entry Set)). OwedAt w front back place q p.0) h.0 o in
      let o3 = subst (λ (b : Bool). IsOwed w front back place.cost [] (undrawn b place.after) p.0) h.1 o2 in
      let is : cost_in_system w.system p.0 ≡ cost_in_system v.system p.0 = ap (λ (y : System). cost_in_system y p.0) w_sys in
      elim o3.1 [ inl a ↦ omega (arith, a, is, p.2, same) | inr k ↦ omega (arith, k.1) ]

  pub filled : HasMore queue (Some place) → IsFilled v w Uses front back most old place queue
  filled h = record {
    listing = l;
    some = elim h [ inl lt ↦ lt | inr e ↦ absurd (not_empty e) ];
    wanted = omega (arith, same, n.wanted);
    owes = all_owed;
  }

-- what the sides trade, and then what the queue gets
pub trades_on : {Set : Type 0} (v v1 w : View Set) (Old Mid : Set → Type 0) (queue queue2 : List (Entry Set))
    → queue ≡ [] → ((a : Set) → Mid a → Valid v1 a) → Trades v v1 Old Mid → Trades v1 w (SetIn queue) (SetIn queue2)
    → Trades v w Old (λ a. Mid a ⊎ SetIn queue2 a)
trades_on v v1 w Old Mid queue queue2 empty valid j k =
    let none : (a : _) → ¬ SetIn queue a = λ a h. subst (λ (q : List (Entry _)). SetIn q a) empty h in
    let both = trades_beside Mid k (λ a h. (valid a h, none a)) in
    let first : Trades v v1 Old (λ a. Mid a ⊎ SetIn queue a) = record {
      system = j.system;
      owned = λ a h. elim h [ inl m ↦ j.owned a m | inr q ↦ absurd (none a q) ];
      fresh = λ a h n. elim h [ inl m ↦ j.fresh a m n | inr q ↦ absurd (none a q) ];
      given = λ a o h. inl (j.given a o h);
      others = j.others;
      only = λ a h. elim (j.only a h) [ inl m ↦ inl (inl m) | inr o ↦ inr o ];
      same = j.same;
    } in
    trades_trans first both

pub trades_alone : {Set : Type 0} (v w : View Set) (Old New : Set → Type 0) (queue : List (Entry Set)) → queue ≡ []
    → Trades v w Old New → Trades v w Old (λ a. New a ⊎ SetIn queue a)
trades_alone v w Old New queue empty j =
    let none : (a : _) → ¬ SetIn queue a = λ a h. subst (λ (q : List (Entry _)). SetIn q a) empty h in
    record {
      system = j.system;
      owned = λ a h. elim h [ inl m ↦ j.owned a m | inr q ↦ absurd (none a q) ];
      fresh = λ a h n. elim h [ inl m ↦ j.fresh a m n | inr q ↦ absurd (none a q) ];
      given = λ a o h. inl (j.given a o h);
      others = j.others;
      only = λ a h. elim (j.only a h) [ inl m ↦ inl (inl m) | inr o ↦ inr o ];
      same = j.same;
    }
