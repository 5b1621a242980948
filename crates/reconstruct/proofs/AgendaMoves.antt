-- From one state of an engine to the next.
use Rattle.std.proofs.Common.{◌≡◌, ℕ, ◌<◌, ◌≤◌, ◌⊎◌, ◌↔◌, inl, inr, Bool, true, false, List, [], length, Option, Some, None, Result, Ok, Err, IfOk, OnErr, refl, sym, ◌∙◌, ap, subst, arith}
use Rattle.task_system.specs.System.{State, System, IsSystemPlan}
use Rattle.space_api.specs.View.{View, Valid}
use Rattle.space_api.specs.Owned.{Trades}
use Rattle.space_api.proofs.Trading.{trades_trans, trades_beside, trades_stays}
use Rattle.space_api.proofs.Keeping.{stays_refl}
use Rattle.cost_layers.specs.Layers.{known_of}
use Rattle.cost_layers.specs.declared.layers.Layers.{Layers}
use Rattle.plan_cuts.specs.declared.Cut.{Cut}
use Rattle.plan_cuts.specs.Entries.{places}
use Rattle.reconstruct.specs.Entries.{SetIn, plains, member_in}
use Rattle.reconstruct.specs.Turned.{HasSingle}
use Rattle.reconstruct.specs.declared.entries.Entry.{Entry}
use Rattle.reconstruct.proofs.Sets.{in_valid}
use Rattle.plan_cuts.specs.Drawing.{undrawn, Above}
use Rattle.bidirectional.specs.Both.{IsBeneath, IsOwnOf, front_layers, back_layers}
use Rattle.bidirectional.specs.declared.search.Both.{Both}
use Rattle.reconstruct.specs.Listing.{IsListing, Drew}
use Rattle.reconstruct.specs.declared.drawing.Place.{Place}
use Rattle.reconstruct.specs.Going.{place_cost, Rests, HasMore, IsFilled, IsCostListed, GoesOnFromBoth}
use Rattle.reconstruct.specs.declared.going.Filled.{Filled}
use Rattle.reconstruct.specs.declared.going.Filled.TheVariants.{Ready, Never, Beyond}
use Rattle.lazy_plans.specs.Law.{top, NoneLeft, MayStop}
use Rattle.lazy_plans.specs.declared.stop.Stop.TheVariants.{CostRange}
use Rattle.reconstruct.specs.Working.{IsAt, InWantedRange, OwesByCuts, Keeping, Moved, FillsQueue}

falsum : false ≡ true → ⊥
falsum e = cc

none_in : {Set : Type 0} (queue : List (Entry Set)) → queue ≡ [] → (a : Set) → ¬ SetIn queue a
none_in queue empty a h = subst (λ (q : List (Entry _)). SetIn q a) empty h

-- the queue's sets are valid
pub queue_valid : {Set : Type 0} (v : View Set) (Uses : Set → Type 0) (front back : Layers Set)
    (listed : Option Place) (queue : List (Entry Set)) → IsAt v Uses front back listed queue → (a : Set)
    → SetIn queue a → Valid v a
queue_valid v Uses front back None queue at a h = absurd (none_in queue at a h)
queue_valid v Uses front back (Some place) queue (inl at) a h = absurd (none_in queue at.1 a h)
queue_valid v Uses front back (Some place) queue (inr at) a h = in_valid v queue a at.queue_is.each h

pub same_way : (A : Type 0) → A ↔ A
same_way A = ((λ h. h), (λ h. h))

-- nothing was done
pub moved_not : {Set : Type 0} (v : View Set) (Owns Uses : Set → Type 0) (front back : Layers Set)
    (listed : Option Place) (queue : List (Entry Set)) → ((a : Set) → Owns a → Valid v a)
    → IsAt v Uses front back listed queue → Moved v v Owns Owns Uses front back front back listed listed queue queue
moved_not v Owns Uses front back listed queue valid at = record {
  at = at;
  trades = trades_stays v v (Keeping Owns queue) (stays_refl v)
      (λ a h. elim h [ inl u ↦ valid a u | inr s ↦ queue_valid v Uses front back listed queue at a s ]);
  owes = λ p. same_way (OwesByCuts v front back listed queue p);
}

pub moved_trans : {Set : Type 0} {v w x : View Set} {Owns Owns2 Owns3 Uses2 Uses3 : Set → Type 0}
    {front back front2 back2 front3 back3 : Layers Set} {l l2 l3 : Option Place} {q q2 q3 : List (Entry Set)}
    → Moved v w Owns Owns2 Uses2 front back front2 back2 l l2 q q2
    → Moved w x Owns2 Owns3 Uses3 front2 back2 front3 back3 l2 l3 q2 q3
    → Moved v x Owns Owns3 Uses3 front back front3 back3 l l3 q q3
moved_trans m n = record {
  at = n.at;
  trades = trades_trans m.trades n.trades;
  owes = λ p. ((λ h. (m.owes p).0 ((n.owes p).0 h)), (λ h. (n.owes p).1 ((m.owes p).1 h)));
}

-- a cut was drawn, or none is left
pub moved_drawn : {Set : Type 0} {v w : View Set} (Owns : Set → Type 0) {Uses : Set → Type 0}
    {front back : Layers Set} {place place2 : Place} {queue queue2 : List (Entry Set)}
    → ((a : Set) → Uses a → Valid v a)
    → ((a : Set) → Owns a → Uses a) → IsListing v Uses front back place queue
    → Drew v w Uses front back place place2 queue queue2
    → Moved v w Owns Owns Uses front back front back (Some place) (Some place2) queue queue2
moved_drawn Owns valid owned l d = record {
  at = inr d.listing;
  trades = trades_beside Owns d.trades (λ a u. (valid a (owned a u), λ s. l.apart a s (owned a u)));
  owes = d.owes;
}

-- the listing, where a cut may be left
pub listing_of : {Set : Type 0} (v : View Set) (Uses : Set → Type 0) (front back : Layers Set) (place : Place)
    (queue : List (Entry Set)) → place.left ≡ true → IsAt v Uses front back (Some place) queue
    → IsListing v Uses front back place queue
listing_of v Uses front back place queue left (inl at) = absurd (falsum (sym at.0 ∙ left))
listing_of v Uses front back place queue left (inr l) = l

-- or an entry is there
pub listing_some : {Set : Type 0} (v : View Set) (Uses : Set → Type 0) (front back : Layers Set) (place : Place)
    (queue : List (Entry Set)) → 0 < length queue → IsAt v Uses front back (Some place) queue
    → IsListing v Uses front back place queue
listing_some v Uses front back place queue some (inl at) = absurd (omega (arith, some, ap length at.1))
listing_some v Uses front back place queue some (inr l) = l

-- what is owed where nothing is left of the cost that is listed
no_places : {Set : Type 0} (v : View Set) (fr : ℕ → State → Bool) (b : ℕ) (after : Option Cut) (left : Bool) (queue : List (Entry Set))
    (p : List ℕ) → left ≡ false → queue ≡ [] → places v.system b (plains v fr queue) (undrawn left after) p ≡ 0
no_places v fr b after left queue p e empty = rw (e, empty) refl

pub rests_owes : {Set : Type 0} (v : View Set) (front back : Layers Set) (listed : Option Place) (queue : List (Entry Set))
    → Rests listed → queue ≡ [] → (p : List ℕ) → OwesByCuts v front back listed queue p ↔ Above v.system (place_cost listed) p
rests_owes v front back None queue rests empty p = same_way (IsSystemPlan v.system p)
rests_owes v front back (Some place) queue rests empty p = (
  (λ h. (h.0, elim h.1 [ inl a ↦ a | inr k ↦ absurd (omega (arith, k.1, no_places v (member_in v front) (known_of back) place.after place.left queue p rests empty)) ])),
  (λ h. (h.0, inl h.1)),
)

rests_at : {Set : Type 0} (v : View Set) (Uses : Set → Type 0) (front back : Layers Set) (listed : Option Place)
    (queue : List (Entry Set)) → Rests listed → queue ≡ [] → IsAt v Uses front back listed queue
rests_at v Uses front back None queue rests empty = empty
rests_at v Uses front back (Some place) queue rests empty = inl (rests, empty)

-- what is left, told of what is owed as well
none_left : (y : System) (most : Option ℕ) (A B : List ℕ → Type 0) → ((p : List ℕ) → A p ↔ B p) → NoneLeft y most A → NoneLeft y most B
none_left y None A B same h = λ p b. h p ((same p).1 b)
none_left y (Some c) A B same h = λ p b. h p ((same p).1 b)

past_range : (y : System) (most : Option ℕ) (A B : List ℕ → Type 0) → ((p : List ℕ) → A p ↔ B p) → MayStop y most A CostRange → MayStop y most B CostRange
past_range y None A B same h = ((h.0.0, (same h.0.0).0 h.0.1), (λ p b. h.1 p ((same p).1 b)))
past_range y (Some c) A B same h = absurd h

pub fills_back : {Set : Type 0} (z y : System) (most : Option ℕ) (A B : List ℕ → Type 0) (queue : List (Entry Set))
    (r : Filled) → z ≡ y → ((p : List ℕ) → A p ↔ B p) → FillsQueue z most A queue r → FillsQueue y most B queue r
fills_back z y most A B queue Ready is same h = h
fills_back z y most A B queue Never is same h = none_left y most A B same (subst (λ (s : System). NoneLeft s most A) is h)
fills_back z y most A B queue Beyond is same h = past_range y most A B same (subst (λ (s : System). MayStop s most A CostRange) is h)

-- going on, whatever it answers
module _ {Set P : Type 0} {v w : View Set} (both both2 : Both Set P) (most : Option ℕ) (old new : Option Place)
    (queue queue2 : List (Entry Set)) (rests : Rests old) (empty : queue ≡ [])
    (t : Trades v w (IsOwnOf both) (λ a. IsOwnOf both2 a ⊎ SetIn queue2 a)) where
  abbrev GoneTo : Option Place → Type 0
  GoneTo l = Moved v w (IsOwnOf both) (IsOwnOf both2) (IsBeneath both2) (front_layers both) (back_layers both) (front_layers both2) (back_layers both2) old l queue queue2

  abbrev Owing : List ℕ → Type 0
  Owing p = OwesByCuts v (front_layers both) (back_layers both) old queue p

  trades_all : Trades v w (Keeping (IsOwnOf both) queue) (Keeping (IsOwnOf both2) queue2)
  trades_all = record {
    system = t.system;
    owned = t.owned;
    fresh = λ a h n. t.fresh a h (λ u. n (inl u));
    given = λ a o h. elim o [ inl u ↦ t.given a u h | inr s ↦ absurd (none_in queue empty a s) ];
    others = λ a h n. t.others a h (λ u. n (inl u));
    only = t.only;
    same = λ a h n. t.same a h (λ u. n (inl u));
  }

  above_on : (p : List ℕ) → Above w.system (place_cost old) p ↔ Above v.system (place_cost old) p
  above_on p = subst (λ (y : System). Above y (place_cost old) p ↔ Above v.system (place_cost old) p) (sym t.system)
      (same_way (Above v.system (place_cost old) p))

  old_owes : (p : List ℕ) → Owing p ↔ Above v.system (place_cost old) p
  old_owes = rests_owes v (front_layers both) (back_layers both) old queue rests empty

  back_owes : (p : List ℕ) → Above v.system (place_cost old) p ↔ Owing p
  back_owes p = ((old_owes p).1, (old_owes p).0)

  -- nothing more is listed
  pub moved_rests : new ≡ old → queue2 ≡ [] → GoneTo new
  moved_rests same none =
      let rests2 : Rests new = subst (λ (l : Option Place). Rests l) (sym same) rests in
      record {
        at = rests_at w (IsBeneath both2) (front_layers both2) (back_layers both2) new queue2 rests2 none;
        trades = trades_all;
        owes = λ p.
            let o = subst (λ (l : Option Place). OwesByCuts w (front_layers both2) (back_layers both2) new queue2 p
            ↔ Above w.system (place_cost l) p) same (rests_owes w (front_layers both2) (back_layers both2) new queue2 rests2 none p) in
            ((λ h. (old_owes p).1 ((above_on p).0 (o.0 h))), (λ h. o.1 ((above_on p).1 ((old_owes p).0 h))));
      }

  filled_moved : (place : Place) → IsFilled v w (IsBeneath both2) (front_layers both2) (back_layers both2) most old place queue2 → GoneTo (Some place)
  filled_moved place f = record {
    at = inr f.listing;
    trades = trades_all;
    owes = λ p. ((λ h. (old_owes p).1 ((f.owes p).0 h)), (λ h. (f.owes p).1 ((old_owes p).0 h)));
  }

  listed_moved : (l : Option Place) → IsCostListed v w (IsBeneath both2) (front_layers both2)
      (back_layers both2) most old l queue2 → GoneTo l × HasSingle queue2
  listed_moved None h = absurd h
  listed_moved (Some place) f = (filled_moved place f, f.some)

  pub went_moved : (r : Filled) → GoesOnFromBoth v w both2 most old new queue2 r → GoneTo new
  went_moved Ready h = (listed_moved new h).0
  went_moved Never h = moved_rests h.0 h.1
  went_moved Beyond h = moved_rests h.0 h.1

  pub went_fills : (r : Filled) → GoesOnFromBoth v w both2 most old new queue2 r → FillsQueue v.system most Owing queue2 r
  went_fills Ready h = (listed_moved new h).1
  went_fills Never h = none_left v.system most (Above v.system (place_cost old)) Owing back_owes h.2
  went_fills Beyond h = past_range v.system most (Above v.system (place_cost old)) Owing back_owes h.2

  pub gone_moved : {E : Type 0} (r : Result Filled E) → IfOk r (GoesOnFromBoth v w both2 most old new queue2)
      → OnErr r (new ≡ old) → OnErr r (queue2 ≡ []) → GoneTo new
  gone_moved (Ok r) h same none = went_moved r h
  gone_moved (Err e) h same none = moved_rests same none

  -- what is owed, told of an earlier view
  pub went_ok : {E : Type 0} {y : System} (Earlier : List ℕ → Type 0) → v.system ≡ y
      → ((p : List ℕ) → Owing p ↔ Earlier p) → (r : Result Filled E) → IfOk r (GoesOnFromBoth v w both2 most old new queue2)
      → IfOk r (FillsQueue y most Earlier queue2)
  went_ok {y = y} Earlier is same (Ok r) h = fills_back v.system y most Owing Earlier queue2 r is same (went_fills r h)
  went_ok Earlier is same (Err e) h = tt

-- nothing is left
pub rest_of : {Set : Type 0} (listed : Option Place) (queue : List (Entry Set)) → queue ≡ [] → HasMore queue listed → Rests listed
rest_of listed queue empty h = elim h [ inl lt ↦ absurd (omega (arith, lt.0, ap length empty)) | inr r ↦ r.1 ]

-- a refused call leaves the cost that is listed
pub gone_fits : {Set P E : Type 0} (v w : View Set) (both : Both Set P) (most : Option ℕ) (old new : Option Place)
    (queue2 : List (Entry Set)) (r : Result Filled E) → InWantedRange most old
    → IfOk r (GoesOnFromBoth v w both most old new queue2) → OnErr r (new ≡ old) → InWantedRange most new
gone_fits v w both most old (Some place) queue2 (Ok Ready) range h same = h.wanted
gone_fits v w both most old None queue2 (Ok Ready) range h same = absurd h
gone_fits v w both most old new queue2 (Ok Never) range h same = subst (λ (l : Option Place). InWantedRange most l) (sym h.0) range
gone_fits v w both most old new queue2 (Ok Beyond) range h same = subst (λ (l : Option Place). InWantedRange most l) (sym h.0) range
gone_fits v w both most old new queue2 (Err e) range h same = subst (λ (l : Option Place). InWantedRange most l) (sym same) range

-- the cost that is listed is the same
pub range_same : (most : Option ℕ) (l k : Option Place) → place_cost k ≡ place_cost l → InWantedRange most l → InWantedRange most k
range_same most None None e h = tt
range_same most None (Some place) e h = absurd (some_none e)
  where
    some_none : Some place.cost ≡ None → ⊥
    some_none e = cc
range_same most (Some place) None e h = tt
range_same most (Some place) (Some other) e h = subst (λ (n : ℕ). n ≤ top most) (inner e) h
  where
    inner : Some other.cost ≡ Some place.cost → place.cost ≡ other.cost
    inner e = cc
