-- The first entry of a cut is put into the queue.
use Rattle.std.proofs.Common.{◌≡◌, ℕ, ◌+◌, ◌<◌, ◌↔◌, inl, inr, Bool, true, false, List, [], ◌∷◌, drop, slice_get, Option, Some, None, Result, Ok, Err, OnOk, OnErr, refl, sym, ◌∙◌, subst, arith}
use Rattle.task_system.specs.System.{State, System, RunsInSystem, IsSystemPlan, cost_in_system}
use Rattle.space_api.specs.View.{View, Valid}
use Rattle.space_api.specs.Frames.{Kept, Stays}
use Rattle.space_api.specs.Owned.{Trades}
use Rattle.cost_layers.specs.Layers.{union_at, known_of, Held}
use Rattle.cost_layers.specs.declared.layers.Layers.{Layers}
use Rattle.plan_cuts.specs.declared.Cut.{Cut}
use Rattle.plan_cuts.specs.declared.Cut.TheVariants.{Whole, Cross}
use Rattle.plan_cuts.specs.EntryCuts.{cut_of, same_cut}
use Rattle.plan_cuts.specs.Counts.{one_if, at_some}
use Rattle.plan_cuts.specs.Entries.{PlainEntry, Owed, Lawful, StandsOnLayers, entry_hits}
use Rattle.plan_cuts.proofs.EntryCutting.{cut_inside}
use Rattle.plan_cuts.proofs.Paths.{both, parted, led}
use Rattle.plan_cuts.proofs.Drawing.{cross_there}
use Rattle.reconstruct.specs.Entries.{as_plain_entry, SetIn, member_in, RightSides}
use Rattle.reconstruct.specs.Turned.{IsQueue}
use Rattle.reconstruct.specs.declared.entries.Entry.{Entry}
use Rattle.reconstruct.proofs.Barren.{in_layer}
use Rattle.reconstruct.proofs.Kept.{member_kept, plains_last, sides_kept}
use Rattle.space_api.proofs.Keeping.{kept_trans}
use Rattle.reconstruct.specs.Walked.{IsLawful, IsOwed}
use Rattle.reconstruct.proofs.RightLayers.{serve}
use Rattle.plan_cuts.specs.Cuts.{IsCutAt, IsNextCut}
use Rattle.reconstruct.specs.Opened.{IsDrawable, OpenedEntry}
use Rattle.plan_cuts.specs.Drawing.{undrawn}
use Rattle.reconstruct.specs.Listing.{AreReady, AreReadyAt, IsSame, IsListing, OwedAt, Drew, Draws, PutsOne, LeavesAll}
use Rattle.reconstruct.specs.declared.drawing.Drawn.{Drawn}
use Rattle.reconstruct.specs.declared.drawing.Place.{Place}
use Rattle.reconstruct.proofs.Sets.{in_valid, entry_back}
use Rattle.space_api.proofs.Trading.{trades_stays}
use Rattle.plan_cuts.proofs.Draws.{drawn_lawful, drawn_owed, none_lawful, none_owed}
use Rattle.bidirectional.specs.Both.{IsBeneath, IsBoth, front_layers, back_layers}
use Rattle.bidirectional.specs.declared.search.Both.{Both}
use Rattle.reconstruct.specs.Sides.{AreRightLayers}
use Rattle.reconstruct.proofs.Ends.{stays_ends}
use Rattle.reconstruct.proofs.Ready.{ready_next}

pub sides_of : {Set : Type 0} (v : View Set) (front back : Layers Set) → AreRightLayers v front back
    → RightSides v.system v front back (known_of front) (known_of back)
sides_of v front back r = serve v front back (known_of front) (known_of back) r.front_held r.back_held r.front_right r.back_right

-- the layers of a plan's cut are there, and its operator is one
pub drawable : {Set : Type 0} (v : View Set) (front back : Layers Set) (cost : ℕ) (cut : Cut)
    → AreRightLayers v front back → cost < known_of front + known_of back
    → IsCutAt v.system (known_of back) cost cut → IsDrawable v front back cut
drawable v front back cost Whole r lt c = tt
drawable v front back cost (Cross x op y) r lt c =
    let s = sides_of v front back r in
    let z = v.system in
    let i = cut_inside z (known_of front) (known_of back) c.0 x op y c.2 (omega (arith, c.1.1, lt)) in
    let m = cross_there z (member_in v front) (member_in v back) (known_of front) (known_of back) s.tables c.0 x op y c.1.0 c.2 i.1 in
    let run = parted z c.2.0 (op ∷ c.2.1) z.initial c.1.0.0 (subst (λ (l : List ℕ). RunsInSystem z z.initial l c.1.0.0) c.2.2 c.1.0.1) in
    let number : op < z.operators = run.2.1.number in
    let p = both (member_in v front x m.0) (at_some (z.step op m.0) (member_in v back y)) m.1 in
    let a = in_layer v (union_at front x) m.0 p.0 in
    let t = led z op m.0 (member_in v back y) (z.step op m.0) number refl p.1 in
    let b = in_layer v (union_at back y) t.0 t.1 in
    (number, (a.0, a.1), (b.0, b.1))

clash : (b : Bool) → b ≡ true → b ≡ false → ⊥
clash b e f = cc

not_valid : (b : Bool) → (b ≡ true → ⊥) → b ≡ false
not_valid true f = absurd (f refl)
not_valid false f = refl

-- a law in a later view that keeps all sets
module _ {Set : Type 0} (v w : View Set) (front back : Layers Set) (k : Kept v w) (hf : Held v front) (hb : Held v back) where
  pub lawful_on : (cost : ℕ) (es : List PlainEntry) (u : Cut → Bool)
      → Lawful v.system (member_in v front) (member_in v back) (known_of front) (known_of back) cost es u
      → Lawful w.system (member_in w front) (member_in w back) (known_of front) (known_of back) cost es u
  lawful_on cost es u l =
      let f = known_of front in
      let b = known_of back in
      let l1 = subst (λ (y : System). Lawful y (member_in v front) (member_in v back) f b cost es u) (sym k.system) l in
      let l2 = subst (λ (p : ℕ → State → Bool). Lawful w.system p (member_in v back) f b cost es u) (sym (member_kept v w k front hf)) l1 in
      subst (λ (p : ℕ → State → Bool). Lawful w.system (member_in w front) p f b cost es u) (sym (member_kept v w k back hb)) l2

  pub owed_on : (b cost : ℕ) (es : List PlainEntry) (u : Cut → Bool) (p : List ℕ) → Owed w.system b cost es u p ↔ Owed v.system b cost es u p
  owed_on b cost es u p = (
    (λ h. subst (λ (y : System). Owed y b cost es u p) k.system h),
    (λ h. subst (λ (y : System). Owed y b cost es u p) (sym k.system) h),
  )

module _ {Set : Type 0} (v w : View Set) (front back : Layers Set) (cost : ℕ) (after : Option Cut)
    (r : AreRightLayers v front back) (lt : cost < known_of front + known_of back) where
  -- a cut was drawn
  module _ (cut : Cut) (e : Entry Set) (next : IsNextCut v.system (known_of back) cost after (Some cut)) (o : OpenedEntry v w front back cost cut e) where
    stands_at : StandsOnLayers v.system (known_of front) (known_of back) cost (as_plain_entry w e)
    stands_at = o.stands (known_of front) (known_of back) (sides_of v front back r) lt next.0

    hits_at : (p : List ℕ) → IsSystemPlan v.system p → cost_in_system v.system p ≡ cost
        → entry_hits v.system (as_plain_entry w e) p ≡ one_if (same_cut (cut_of v.system (known_of back) p) cut)
    hits_at = o.hits (known_of front) (known_of back) (sides_of v front back r) lt next.0

    pub one_lawful : IsLawful v front back cost [] (undrawn true after) → IsLawful w front back cost (e ∷ []) (undrawn true (Some cut))
    one_lawful l = subst (λ (es : List PlainEntry). Lawful w.system (member_in w front) (member_in w back) (known_of front)
        (known_of back) cost es (undrawn true (Some cut))) (sym (plains_last w (member_in w front) [] e o.single))
        (lawful_on v w front back o.kept r.front_held r.back_held cost (as_plain_entry w e ∷ []) (undrawn true (Some cut))
        (drawn_lawful v.system (known_of back) cost (member_in v front) (member_in v back) (known_of front) r.begun.1
        after cut (as_plain_entry w e) next stands_at hits_at l))

    pub one_owed : (p : List ℕ) → IsOwed w front back cost (e ∷ []) (undrawn true (Some cut)) p ↔ IsOwed v front back cost [] (undrawn true after) p
    one_owed p =
        let a = owed_on v w front back o.kept r.front_held r.back_held (known_of back) cost (as_plain_entry w e ∷ []) (undrawn true (Some cut)) p in
        let d = drawn_owed v.system (known_of back) cost (member_in v front) (member_in v back) (known_of front)
        r.begun.1 after cut (as_plain_entry w e) next stands_at hits_at p in
        subst (λ (es : List PlainEntry). Owed w.system (known_of back) cost es (undrawn true (Some cut)) p
        ↔ IsOwed v front back cost [] (undrawn true after) p) (sym (plains_last w (member_in w front) [] e o.single))
        ((λ h. d.0 (a.0 h)), (λ h. a.1 (d.1 h)))

    pub one_queue : IsQueue w (e ∷ [])
    one_queue = record { each = (o.fine, tt); distinct = ((λ a has x. x), tt) }

    pub one_trades : Trades v w (SetIn {Set = Set} []) (SetIn (e ∷ []))
    one_trades = record {
      system = o.kept.system;
      owned = λ a h. in_valid w (e ∷ []) a (o.fine, tt) h;
      fresh = λ a h n. elim h [ inl has ↦ o.new.fresh a has | inr x ↦ absurd x ];
      given = λ a h valid. absurd h;
      others = λ a h n. o.kept.valid a h;
      only = λ a h. elim (o.new.only a h) [ inl k ↦ inr k | inr has ↦ inl (inl has) ];
      same = λ a h n s. o.kept.same a h s;
    }

    pub one_apart : (Uses : Set → Type 0) → ((a : Set) → Uses a → Valid v a) → (a : Set) → SetIn (e ∷ []) a → ¬ Uses a
    one_apart Uses valid a h use1 = elim h [ inl has ↦ clash (v.valid a) (valid a use1) (o.new.fresh a has) | inr x ↦ x ]

  -- no cut is left
  module _ (none : IsNextCut v.system (known_of back) cost after None) (s : Stays v w) where
    pub none_left : IsLawful v front back cost [] (undrawn true after) → IsLawful w front back cost [] (undrawn false after)
    none_left l = lawful_on v w front back s.kept r.front_held r.back_held cost [] (undrawn false after)
        (none_lawful v.system (known_of back) cost (member_in v front) (member_in v back) (known_of front)
        r.begun.1 after none l.tables)

    pub none_owes : (p : List ℕ) → IsOwed w front back cost [] (undrawn false after) p ↔ IsOwed v front back cost [] (undrawn true after) p
    none_owes p =
        let a = owed_on v w front back s.kept r.front_held r.back_held (known_of back) cost [] (undrawn false after) p in
        let d = none_owed v.system (known_of back) cost (member_in v front) (member_in v back) (known_of front) r.begun.1 after none p in
        ((λ h. d.0 (a.0 h)), (λ h. a.1 (d.1 h)))

pub trades_empty : {Set : Type 0} (v w : View Set) → Stays v w → Trades v w (SetIn {Set = Set} []) (SetIn {Set = Set} [])
trades_empty v w s = trades_stays v w (SetIn []) s (λ a h. absurd h)

-- what is told of a cost, a cut and a mark, of a place with them
pub at_place : (C : ℕ → Option Cut → Bool → Type 0) (p : Place) (cost : ℕ) (after : Option Cut) (left : Bool)
    → p.cost ≡ cost → p.after ≡ after → p.left ≡ left → C cost after left → C p.cost p.after p.left
at_place C p cost after left a b c h = subst (λ (n : ℕ). C n p.after p.left) (sym a)
    (subst (λ (o : Option Cut). C cost o p.left) (sym b) (subst (C cost after) (sym c) h))

-- a place with a cut that may be left, and nothing in the queue
module _ {Set : Type 0} (v : View Set) (Uses : Set → Type 0) (front back : Layers Set) (place : Place)
    (queue : List (Entry Set)) (r : AreRightLayers v front back) (valid : (a : Set) → Uses a → Valid v a)
    (left : place.left ≡ true) (empty : queue ≡ []) (l : IsListing v Uses front back place queue) where
  lawful_at : IsLawful v front back place.cost [] (undrawn true place.after)
  lawful_at = subst (λ (x : Bool). IsLawful v front back place.cost [] (undrawn x place.after)) left
      (subst (λ (q : List (Entry Set)). IsLawful v front back place.cost q (undrawn place.left place.after)) empty
      l.lawful)

  owed_at : (p : List ℕ) → IsOwed v front back place.cost [] (undrawn true place.after) p ↔ OwedAt v front back place queue p
  owed_at p = (
    (λ h. subst (λ (q : List (Entry Set)). OwedAt v front back place q p) (sym empty)
        (subst (λ (x : Bool). IsOwed v front back place.cost [] (undrawn x place.after) p) (sym left) h)),
    (λ h. subst (λ (x : Bool). IsOwed v front back place.cost [] (undrawn x place.after) p) left (subst (λ (q : List (Entry Set)). OwedAt v front back place q p) empty h)),
  )

  -- what was done, by what is known of it without the place
  drew_of : {w : View Set} (place2 : Place) {queue2 : List (Entry Set)} {after2 : Option Cut} {left2 : Bool}
      → place2.cost ≡ place.cost → place2.after ≡ after2 → place2.left ≡ left2 → Kept v w → IsQueue w queue2
      → ((a : Set) → SetIn queue2 a → ¬ Uses a) → Trades v w (SetIn {Set = Set} []) (SetIn queue2) → AreReadyAt v.system (known_of back) place2
      → IsLawful w front back place.cost queue2 (undrawn left2 after2)
      → ((p : List ℕ) → IsOwed w front back place.cost queue2 (undrawn left2 after2) p
      ↔ IsOwed v front back place.cost [] (undrawn true place.after) p)
      → Drew v w Uses front back place place2 queue queue2
  drew_of {w = w} place2 {queue2 = queue2} {after2 = after2} {left2 = left2} cost after mark k fine apart t ready lawful owes = record {
    kept = k;
    listing = record {
      queue_is = fine;
      apart = apart;
      settled = subst (λ (n : ℕ). n < known_of front + known_of back) (sym cost) l.settled;
      lawful = at_place (λ c o x. IsLawful w front back c queue2 (undrawn x o)) place2 place.cost after2 left2 cost after mark lawful;
      ready = subst (λ (y : System). AreReadyAt y (known_of back) place2) (sym k.system) ready;
    };
    cost = cost;
    trades = subst (λ (q : List (Entry Set)). Trades v w (SetIn q) (SetIn queue2)) (sym empty) t;
    owes = λ p.
        let o = owes p in
        let a = owed_at p in
        at_place (λ c x y. IsOwed w front back c queue2 (undrawn y x) p ↔ OwedAt v front back place queue p) place2 place.cost
        after2 left2 cost after mark ((λ h. a.0 (o.0 h)), (λ h. o.1 (a.1 h)));
  }

  to_queue : (w : View Set) (place2 : Place) (queue2 queue3 : List (Entry Set)) → queue3 ≡ queue2
      → Drew v w Uses front back place place2 queue queue2 → Drew v w Uses front back place place2 queue queue3
  to_queue w place2 queue2 queue3 e d = subst (λ (q : List (Entry Set)). Drew v w Uses front back place place2 queue q) (sym e) d

  no_queue : (w : View Set) → IsQueue {Set = Set} w []
  no_queue w = record { each = tt; distinct = tt }

  -- no cut follows
  pub none_drew : (w : View Set) (place2 : Place) → place2.cost ≡ place.cost → place2.after ≡ place.after
      → place2.left ≡ false → AreReadyAt v.system (known_of back) place2 → Stays v w
      → IsNextCut v.system (known_of back) place.cost place.after None
      → Drew v w Uses front back place place2 queue queue
  none_drew w place2 cost after mark ready s none = to_queue w place2 [] queue empty
      (drew_of place2 cost after mark s.kept (no_queue w) (λ a h. absurd h) (trades_empty v w s) ready
      (none_left v w front back place.cost place.after r l.settled none s lawful_at)
      (none_owes v w front back place.cost place.after r l.settled none s))

  -- nothing changes but the view, which keeps all sets, and the cuts that are ready
  pub stays_drew : (w : View Set) (place2 : Place) → IsSame place place2 → AreReadyAt v.system (known_of back) place2
      → Stays v w → Drew v w Uses front back place place2 queue queue
  stays_drew w place2 same ready s = to_queue w place2 [] queue empty
      (drew_of place2 same.cost same.after (same.left ∙ left) s.kept (no_queue w) (λ a h. absurd h)
      (trades_empty v w s) ready (lawful_on v w front back s.kept r.front_held r.back_held place.cost []
      (undrawn true place.after) lawful_at)
      (λ p. owed_on v w front back s.kept r.front_held r.back_held (known_of back) place.cost [] (undrawn true place.after) p))

  one_drew : (w : View Set) (place2 : Place) (cut : Cut) (e : Entry Set) → place2.cost ≡ place.cost
      → place2.after ≡ Some cut → place2.left ≡ true → AreReadyAt v.system (known_of back) place2
      → IsNextCut v.system (known_of back) place.cost place.after (Some cut)
      → OpenedEntry v w front back place.cost cut e → Drew v w Uses front back place place2 queue (e ∷ [])
  one_drew w place2 cut e cost after mark ready next o = drew_of place2 cost after mark o.kept
      (one_queue v w front back place.cost place.after r l.settled cut e next o)
      (one_apart v w front back place.cost place.after r l.settled cut e next o Uses valid)
      (one_trades v w front back place.cost place.after r l.settled cut e next o) ready
      (one_lawful v w front back place.cost place.after r l.settled cut e next o lawful_at)
      (one_owed v w front back place.cost place.after r l.settled cut e next o)

  -- by what putting the entry answers
  pub put_drew : {A : Type 0} {E : Type 0} {v1 w : View Set} {place1 : Place} (d : Drawn Set) (place2 : Place)
      (queue2 : List (Entry Set)) (x : Result A E) → IsSame place place1
      → AreReadyAt v.system (known_of back) place1
      → slice_get place1.ready.items 0 ≡ Some d.cut → OpenedEntry v v1 front back place1.cost d.cut d.entry
      → OnOk x (PutsOne v1 w place1 place2 queue2 d) → OnErr x (LeavesAll v1 w place1 place2 queue queue2 d)
      → Drew v w Uses front back place place2 queue queue2
  put_drew {v1 = v1} {w = w} {place1 = place1} d place2 queue2 (Ok a) same ready is o ok err =
      let n = ready_next v.system (known_of back) place1.cost place1.after place1.ready.items d.cut ready is in
      let next = subst (λ (c : ℕ). IsNextCut v.system (known_of back) c place.after (Some d.cut)) same.cost
      (subst (λ (x : Option Cut). IsNextCut v.system (known_of back) place1.cost x (Some d.cut)) same.after
      n.0) in
      let rest = subst (λ (c : ℕ). AreReady v.system (known_of back) c place2.after (drop 1 place1.ready.items))
      (sym ok.cost) (subst (λ (x : Option Cut). AreReady v.system (known_of back) place1.cost x
      (drop 1 place1.ready.items)) (sym ok.after) n.1) in
      let ready2 = subst (AreReady v.system (known_of back) place2.cost place2.after) (sym ok.ready) rest in
      let here = one_drew v1 place2 d.cut d.entry (ok.cost ∙ same.cost) ok.after (ok.left ∙ same.left ∙ left) ready2
      next (subst (λ (c : ℕ). OpenedEntry v v1 front back c d.cut d.entry) same.cost o) in
      to_queue w place2 (d.entry ∷ []) queue2 ok.queue (subst (λ (z : View Set). Drew v z Uses front back place place2 queue (d.entry ∷ [])) (sym ok.view) here)
  put_drew {v1 = v1} {w = w} {place1 = place1} d place2 queue2 (Err b) same ready is o ok err =
      let s : Stays v w = entry_back v v1 w d.entry o.kept o.new o.fine err.0 in
      to_queue w place2 queue queue2 err.2 (subst (λ (q : Place). Drew v w Uses front back place q queue queue) (sym err.1) (stays_drew w place1 same ready s))

pub drawable_on : {Set : Type 0} (v w : View Set) (front back : Layers Set) (cut : Cut) → Kept v w → IsDrawable v front back cut → IsDrawable w front back cut
drawable_on v w front back Whole k d = tt
drawable_on v w front back (Cross x op y) k d = (subst (λ (z : System). op < z.operators) (sym k.system) d.0, d.1, d.2)

-- a cut that is opened in a later view in which the same sets are valid
pub opened_from : {Set : Type 0} {v v1 w : View Set} {front back : Layers Set} {cost : ℕ} {cut : Cut} {e : Entry Set}
    → Stays v v1 → Held v front → Held v back → OpenedEntry v1 w front back cost cut e → OpenedEntry v w front back cost cut e
opened_from {v = v} {v1 = v1} {w = w} {front = front} {back = back} {cost = cost} {cut = cut} {e = e} s hf hb o = record {
  kept = kept_trans s.kept o.kept;
  new = record {
    fresh = λ a has. not_valid (v.valid a) (λ h. clash (v1.valid a) (s.kept.valid a h) (o.new.fresh a has));
    only = λ a h. elim (o.new.only a h) [ inl k ↦ inl (s.only a k) | inr q ↦ inr q ];
  };
  fine = o.fine;
  single = o.single;
  stands = λ f b sides lt c.
      subst (λ (y : System). StandsOnLayers y f b cost (as_plain_entry w e)) s.kept.system
      (o.stands f b (subst (λ (y : System). RightSides y v1 front back f b) (sym s.kept.system)
      (sides_kept v v1 s.kept v.system front back f b hf hb sides)) lt
      (subst (λ (y : System). IsCutAt y b cost cut) (sym s.kept.system) c));
  hits = λ f b sides lt c.
      subst (λ (y : System). (p : List ℕ) → IsSystemPlan y p → cost_in_system y p ≡ cost
      → entry_hits y (as_plain_entry w e) p ≡ one_if (same_cut (cut_of y b p) cut)) s.kept.system
      (o.hits f b (subst (λ (y : System). RightSides y v1 front back f b) (sym s.kept.system)
      (sides_kept v v1 s.kept v.system front back f b hf hb sides)) lt
      (subst (λ (y : System). IsCutAt y b cost cut) (sym s.kept.system) c));
}

-- the search stands on
pub drew_draws : {Set P : Type 0} (v w : View Set) (both : Both Set P) (place place2 : Place)
    (queue queue2 : List (Entry Set)) → IsBoth v both → Drew v w (IsBeneath both) (front_layers both)
    (back_layers both) place place2 queue queue2 → Draws v w both place place2 queue queue2
drew_draws v w both place place2 queue queue2 z d = (stays_ends v w both d.kept z, d)
