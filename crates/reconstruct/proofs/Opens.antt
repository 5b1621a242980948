-- The first entry of a cut.
use Rattle.std.proofs.Common.{◌≡◌, ℕ, ◌+◌, ◌<◌, ◌≤◌, Bool, true, List, [], ◌∷◌, Option, Some, refl, sym, ◌∙◌, ap, subst, arith, eq-eqb}
use Rattle.task_system.specs.System.{State, System, RunsInSystem, IsSystemPlan, cost_in_system}
use Rattle.space_api.specs.View.{View, Preimage}
use Rattle.space_api.specs.Frames.{Kept, Stays, Gives}
use Rattle.space_api.proofs.Keeping.{kept_refl, kept_trans}
use Rattle.run_graph.specs.Reached.{ReachedAt, ToGoalAt, Useful}
use Rattle.cost_layers.specs.Layers.{union_at, Held}
use Rattle.cost_layers.specs.declared.layers.Layers.{Layers}
use Rattle.plan_cuts.specs.declared.Cut.{Cut}
use Rattle.plan_cuts.specs.declared.Cut.TheVariants.{Whole, Cross}
use Rattle.plan_cuts.specs.EntryCuts.{cut_of, same_cut}
use Rattle.plan_cuts.specs.Counts.{one_if, at_some}
use Rattle.plan_cuts.specs.Entries.{PlainEntry, Head, Tail, BwdIn, FwdIn, zeros, StandsOnLayers, entry_hits}
use Rattle.plan_cuts.proofs.EntryCutting.{cut_one, cut_inside}
use Rattle.plan_cuts.proofs.Ends.{ends_of_fwd, bwd_more}
use Rattle.plan_cuts.proofs.Paths.{both, led}
use Rattle.plan_cuts.proofs.Drawing.{meeting, cross_hits, cross_there, cross_stands}
use Rattle.reconstruct.specs.Entries.{as_plain_entry, EntryOk, in_some, member_in, RightSides}
use Rattle.reconstruct.specs.Ways.{IsNewSet, IsFirstRing}
use Rattle.reconstruct.specs.declared.entries.Prefix.{Prefix}
use Rattle.reconstruct.specs.declared.entries.Suffix.{Suffix}
use Rattle.reconstruct.specs.declared.entries.Entry.TheVariants.{Before, After}
use Rattle.reconstruct.proofs.Kept.{stands_kept}
use Rattle.reconstruct.proofs.Sets.{new_of, new_stays, new_before, new_after}
use Rattle.reconstruct.proofs.OneChild.{same_test}
use Rattle.plan_cuts.specs.Cuts.{IsCutAt}
use Rattle.reconstruct.specs.Opened.{OpensCross, OpenedEntry, OpenedCross}

in_whole : {Set : Type 0} (v : View Set) (o : Option Set) (a : Set) (s : State) → o ≡ Some a → in_some v o s ≡ v.has a s
in_whole v o a s e = ap (λ (x : Option _). in_some v x s) e

-- not cut
module _ {Set : Type 0} (v : View Set) (front back : Layers Set) (cost : ℕ) (e : Suffix)
    (state : e.state ≡ v.system.initial) (cost_is : e.cost ≡ cost) (none : e.operators.items ≡ [])
    (least : IsFirstRing v back cost e.state e.ring) where
  abbrev y : System
  y = v.system

  fine : EntryOk v (After e)
  fine = rw none (sym state)

  module _ (f b : ℕ) (sides : RightSides y v front back f b) (c : IsCutAt y b cost Whole) where
    low : cost < b
    low = omega (arith, c.1.1, c.2)

    bwd : ToGoalAt y cost y.initial
    bwd = (c.0, c.1.0.0, c.1.0.1, c.1.0.2, c.1.1)

    serves : Useful y y.initial
    serves = record { before = (0, ([], refl, refl)); after = (cost, bwd) }

    in_ring : BwdIn y cost e.ring y.initial
    in_ring =
        let at : BwdIn y cost (zeros y bwd.0) y.initial = (bwd.0, bwd.1, bwd.2, bwd.3, bwd.4, refl) in
        let there = sides.back_rings.there cost (zeros y bwd.0) y.initial low serves at in
        let first : IsFirstRing v back cost y.initial e.ring = subst (λ (x : State). IsFirstRing v back cost x e.ring) state least in
        sides.back_rings.sound cost e.ring y.initial low serves (first there.0 there.2).1

    pub whole_stands : StandsOnLayers y f b cost (as_plain_entry v (After e))
    whole_stands = rw (cost_is, none) ((y.initial, refl, in_ring), omega arith, low)

    pub whole_hits : (p : List ℕ) → IsSystemPlan y p → cost_in_system y p ≡ cost
        → entry_hits y (as_plain_entry v (After e)) p ≡ one_if (same_cut (cut_of y b p) Whole)
    whole_hits p plan is =
        let cut : cut_of y b p ≡ Whole = cut_one y b p Whole (omega (arith, is, low)) in
        let here : entry_hits y (Tail cost e.ring []) p ≡ 1 = rw (eq-eqb (cost_in_system y p) cost is) refl in
        rw (cost_is, none) (here ∙ sym (ap (λ (z : Cut). one_if (same_cut z Whole)) cut))

  pub whole_opened : OpenedEntry v v front back cost Whole (After e)
  whole_opened = record {
    kept = kept_refl v;
    new = new_after v e;
    single = tt;
    fine = fine;
    stands = λ f b sides lt c. whole_stands f b sides c;
    hits = λ f b sides lt c. whole_hits f b sides c;
  }

-- cut at an operator
module _ {Set : Type 0} {v v1 w : View Set} {front : Layers Set} (back : Layers Set) {x op r : ℕ}
    {before after set : Set} {e : Prefix Set} (held : Held v front) (number : op < v.system.operators)
    (is_front : union_at front x ≡ Some before) (is_back : union_at back r ≡ Some after) (k1 : Kept v v1)
    (g : Gives v v1 (Preimage v op after before) set) (s1 : Stays v1 w)
    (o : OpensCross v1 front x op r set e) where
  abbrev z : System
  z = v.system

  new_cross : IsNewSet v w set
  new_cross = new_stays v v1 w set (new_of v v1 set g) s1

  cross_fine : EntryOk w (Before e)
  cross_fine = rw (o.set_is, o.operators_are) (
    new_cross.valid,
    λ s h.
        let m = (g.means s).0 (sym (s1.kept.same set g.valid s) ∙ h) in
        (m.1.0, subst (λ (q : System). RunsInSystem q s (op ∷ []) m.1.0) (sym (s1.kept.system ∙ k1.system)) (m.1.0, m.1.2, refl)),
  )

  abbrev meets : State → Bool
  meets = meeting z (member_in v front) (member_in v back) x op r

  has_meets : (s : State) → v1.has set s ≡ meets s
  has_meets s = same_test (v1.has set s) (meets s)
      (λ h.
      let m = (g.means s).0 h in
      let l = m.1.2 in
      rw (in_whole v (union_at front x) before s is_front ∙ m.0, l.step) (in_whole v (union_at back r) after m.1.0 is_back ∙ m.1.1))
      (λ h.
      let p = both (member_in v front x s) (at_some (z.step op s) (member_in v back r)) h in
      let t = led z op s (member_in v back r) (z.step op s) number refl p.1 in
      (g.means s).1 (sym (in_whole v (union_at front x) before s is_front) ∙ p.0, (t.0, sym (in_whole v (union_at back r) after t.0 is_back) ∙ t.1, t.2)))

  pub plain_cross : as_plain_entry w (Before e) ≡ Head meets x e.ring (op ∷ []) r
  plain_cross =
      let same : w.has e.set ≡ meets = λ i s. (ap (λ (q : Set). w.has q s) o.set_is ∙ s1.kept.same set g.valid s ∙ has_meets s) i in
      ap (λ (h : State → Bool). Head h e.cost e.ring e.operators.items e.after) same
      ∙ ap (λ (n : ℕ). Head meets n e.ring e.operators.items e.after) o.cost_is
      ∙ ap (λ (q : List ℕ). Head meets x e.ring q e.after) o.operators_are
      ∙ ap (λ (n : ℕ). Head meets x e.ring (op ∷ []) n) o.after_is

  module _ (cost f b : ℕ) (sides : RightSides z v front back f b) (lt : cost < f + b) (c : IsCutAt z b cost (Cross x op r)) where
    inside : (x + z.cost op + r ≡ cost_in_system z c.0) × (x < f) × (r < b) × (0 < z.cost op)
    inside = cut_inside z f b c.0 x op r c.2 (omega (arith, c.1.1, lt))

    far : b ≤ z.cost op + r
    far = c.2.6

    meet : (s : State) × (meets s ≡ true)
    meet = cross_there z (member_in v front) (member_in v back) f b sides.tables c.0 x op r c.1.0 c.2 inside.1

    serves_at : (s : State) → meets s ≡ true → ReachedAt z x s × Useful z s
    serves_at s h =
        let p = both (member_in v front x s) (at_some (z.step op s) (member_in v back r)) h in
        let t = led z op s (member_in v back r) (z.step op s) number refl p.1 in
        let fwd = sides.tables.front_sound x s inside.1 p.0 in
        let bwd = sides.tables.back_sound r t.0 inside.2 t.1 in
        (fwd, record { before = (x, fwd); after = (z.cost op + r, bwd_more z r op s t.0 t.2 bwd) })

    in_first : (s : State) × (meets s ≡ true) × FwdIn z x e.ring s
    in_first =
        let u = serves_at meet.0 meet.1 in
        let q = ends_of_fwd z x meet.0 u.0 in
        let there = sides.front_rings.there x (zeros z q.0) meet.0 inside.1 u.1 (q.0, q.1, q.2, refl) in
        let l = (o.least there.0 meet.0 ((stands_kept v v1 k1 front x there.0 meet.0 held).1 there.2) (has_meets meet.0 ∙ meet.1)).1 in
        let h : meets l.0 ≡ true = sym (has_meets l.0) ∙ l.2 in
        (l.0, h, sides.front_rings.sound x e.ring l.0 inside.1 (serves_at l.0 h).1 ((stands_kept v v1 k1 front x e.ring l.0 held).0 l.1))

    pub cross_stand : StandsOnLayers z f b cost (as_plain_entry w (Before e))
    cross_stand = subst (λ (q : PlainEntry). StandsOnLayers z f b cost q) (sym plain_cross)
        (cross_stands z (member_in v front) (member_in v back) f b sides.tables x op r e.ring cost number inside.1
        inside.2 (omega (arith, inside.0, c.1.1)) in_first)

    pub cross_hit : (p : List ℕ) → IsSystemPlan z p → entry_hits z (as_plain_entry w (Before e)) p ≡ one_if (same_cut (cut_of z b p) (Cross x op r))
    cross_hit p plan = ap (λ (q : PlainEntry). entry_hits z q p) plain_cross
        ∙ cross_hits z (member_in v front) (member_in v back) f b sides.tables x op r e.ring p
        inside.1 inside.2 far plan

  pub cross_opened : OpenedCross v w front back x op r (Before e)
  cross_opened cost = record {
    kept = kept_trans k1 s1.kept;
    new = new_before v w e (subst (λ (q : Set). IsNewSet v w q) (sym o.set_is) new_cross);
    single = tt;
    fine = cross_fine;
    stands = λ f b sides lt c. cross_stand cost f b sides lt c;
    hits = λ f b sides lt c p plan is. cross_hit cost f b sides lt c p plan;
  }
