-- The child by an operator.
use Rattle.std.proofs.Common.{◌≡◌, ℕ, ◌+◌, ◌-◌, ◌<◌, ◌≤◌, Bool, true, false, ◌&&◌, leb, List, [], ◌∷◌, ◌++◌, Option, Some, refl, sym, ◌∙◌, ap, subst, arith}
use Rattle.task_system.specs.System.{State, System, Leads, RunsInSystem, cost_in_system}
use Rattle.space_api.specs.View.{View, Has}
use Rattle.space_api.specs.Frames.{Kept}
use Rattle.run_graph.specs.Reached.{ReachedAt, ToGoalAt, Useful}
use Rattle.cost_layers.specs.Layers.{union_at, Held, Stands as StandsIn}
use Rattle.cost_layers.specs.declared.layers.Layers.{Layers}
use Rattle.plan_cuts.specs.Counts.{at_some}
use Rattle.plan_cuts.specs.Entries.{FwdIn, BwdIn, into, onto, zeros, IsChild}
use Rattle.plan_cuts.proofs.EntryCutting.{falsum, leb_yes}
use Rattle.plan_cuts.proofs.Ends.{ends_of_fwd, bwd_more}
use Rattle.plan_cuts.proofs.Paths.{both, led, joined, run_one, reach_run}
use Rattle.reconstruct.specs.Entries.{as_plain_entry, EntryOk, LeadOn, in_some, member_in, Ready}
use Rattle.reconstruct.specs.Ways.{JoinsEntry, IsChildSet}
use Rattle.reconstruct.specs.Grown.{GrownBefore, GrownAfter}
use Rattle.reconstruct.specs.declared.entries.Prefix.{Prefix}
use Rattle.reconstruct.specs.declared.entries.Suffix.{Suffix}
use Rattle.reconstruct.specs.declared.entries.Entry.TheVariants.{Before, After}
use Rattle.reconstruct.proofs.Kept.{stands_kept}

pub same_test : (a b : Bool) → (a ≡ true → b ≡ true) → (b ≡ true → a ≡ true) → a ≡ b
same_test true b f g = sym (f refl)
same_test false true f g = absurd (falsum (g refl))
same_test false false f g = refl

in_whole : {Set : Type 0} (v : View Set) (o : Option Set) (a : Set) (s : State) → o ≡ Some a → in_some v o s ≡ v.has a s
in_whole v o a s e = ap (λ (x : Option _). in_some v x s) e

module _ {Set : Type 0} {v v1 w : View Set} {op : ℕ} (number : op < v.system.operators) (k1 : Kept v v1) (k2 : Kept v1 w) where
  abbrev y : System
  y = v.system

  -- a prefix
  module _ (front : Layers Set) {within a : Set} {e : Prefix Set} (ok : EntryOk v (Before e))
      (le : y.cost op ≤ e.cost) (at : union_at front (e.cost - y.cost op) ≡ Some within) (held : Held v front)
      (found : IsChildSet v v1 e op within a) where
    pub leads_on : LeadOn w a (op ∷ e.operators.items)
    leads_on s h =
        let m = (found.means s).0 (sym (k2.same a found.new.valid s) ∙ h) in
        let r = ok.1 m.0 m.1.2 in
        (r.0, subst (λ (z : System). RunsInSystem z s (op ∷ e.operators.items) r.0) (sym (k2.system ∙ k1.system)) (m.0, m.1.0, r.1))

    abbrev pub wanted : State → Bool
    wanted = into y (member_in v front) (v.has e.set) e.cost op

    wants : (s : State) → wanted s ≡ true → (t : State) × Leads y op s t × Has v within s × Has v e.set t
    wants s h =
        let p = both (leb (y.cost op) e.cost) (member_in v front (e.cost - y.cost op) s && at_some (y.step op s) (v.has e.set)) h in
        let q = both (member_in v front (e.cost - y.cost op) s) (at_some (y.step op s) (v.has e.set)) p.1 in
        let t = led y op s (v.has e.set) (y.step op s) number refl q.1 in
        (t.0, t.2, sym (in_whole v (union_at front (e.cost - y.cost op)) within s at) ∙ q.0, t.1)

    wanted_by : (s t : State) → Leads y op s t → Has v within s → Has v e.set t → wanted s ≡ true
    wanted_by s t l i h = rw (leb_yes (y.cost op) e.cost le, in_whole v (union_at front (e.cost - y.cost op)) within s at ∙ i, l.step) h

    pub has : (s : State) → v1.has a s ≡ wanted s
    has s = same_test (v1.has a s) (wanted s)
        (λ h. let m = (found.means s).0 h in wanted_by s m.0 m.1.0 m.1.1 m.1.2)
        (λ h. (found.means s).1 (let m = wants s h in (m.0, (m.1, m.2, m.3))))

    module _ {c : Prefix Set} (grown : GrownBefore v1 front e op (y.cost op) a c) where
      pub before_ok : EntryOk w (Before c)
      before_ok = rw (grown.set_is, grown.operators_are) (k2.valid a found.new.valid, leads_on)

      module _ (back : Layers Set) (f b listed : ℕ) (ready : Ready y v front back f b listed (as_plain_entry v (Before e))) where
        below : e.cost - y.cost op < f
        below = omega (arith, ready.stands.4)

        member : (s : State) → wanted s ≡ true → ReachedAt y (e.cost - y.cost op) s × Useful y s
        member s h =
            let p = both (leb (y.cost op) e.cost) (member_in v front (e.cost - y.cost op) s && at_some (y.step op s) (v.has e.set)) h in
            let q = both (member_in v front (e.cost - y.cost op) s) (at_some (y.step op s) (v.has e.set)) p.1 in
            let g = ready.sides.tables.front_sound (e.cost - y.cost op) s below q.0 in
            let t = led y op s (v.has e.set) (y.step op s) number refl q.1 in
            let m = ready.stands.2 t.0 t.1 in
            let r = m.2 in
            let rest = e.operators.items ++ r.0 in
            let bwd : ToGoalAt y (cost_in_system y rest) t.0 = (rest, r.1, joined y e.operators.items r.0 t.0 m.0 r.1 m.1 r.2, r.3, refl) in
            (g, record { before = (e.cost - y.cost op, g); after = (y.cost op + cost_in_system y rest, bwd_more y (cost_in_system y rest) op s t.0 t.2 bwd) })

        at_ring : (s : State) (n : ℕ) → wanted s ≡ true → FwdIn y (e.cost - y.cost op) n s → (c.ring ≤ n)
            × ((t : State) × StandsIn v1 front (e.cost - y.cost op) c.ring t × Has v1 a t)
        at_ring s n h g =
            let m = member s h in
            let there = ready.sides.front_rings.there (e.cost - y.cost op) n s below m.1 g in
            let l = grown.least there.0 s ((stands_kept v v1 k1 front (e.cost - y.cost op) there.0 s held).1 there.2) (has s ∙ h) in
            (omega (arith, l.0, there.1), l.1)

        pub before_child : IsChild y (member_in v front) (member_in v back) (as_plain_entry v (Before e)) op (as_plain_entry w (Before c))
        before_child =
            let same : (s : State) → w.has c.set s ≡ wanted s = λ s. rw grown.set_is (k2.same a found.new.valid s ∙ has s) in
            let s0 = found.some.0 in
            let j0 = found.some.2 in
            let h0 : wanted s0 ≡ true = wanted_by s0 found.some.1 j0.0 j0.1 j0.2 in
            let g0 = ends_of_fwd y (e.cost - y.cost op) s0 (member s0 h0).0 in
            let r0 = (at_ring s0 (zeros y g0.0) h0 (g0.0, g0.1, g0.2, refl)).1 in
            let h1 : wanted r0.0 ≡ true = sym (has r0.0) ∙ r0.2 in
            let in_ring = ready.sides.front_rings.sound (e.cost - y.cost op) c.ring r0.0 below (member r0.0 h1).1
            ((stands_kept v v1 k1 front (e.cost - y.cost op) c.ring r0.0 held).0 r0.1) in (
              same,
              grown.cost_is,
              grown.operators_are,
              grown.after_is,
              (r0.0, same r0.0 ∙ h1, subst (λ (x : ℕ). FwdIn y x c.ring r0.0) (sym grown.cost_is) in_ring),
              (λ s n h g. (at_ring s n (sym (same s) ∙ h) (subst (λ (x : ℕ). FwdIn y x n s) grown.cost_is g)).0),
              number,
            )

-- a suffix, in one view
module _ {Set : Type 0} {v : View Set} {back : Layers Set} {op : ℕ} {within : Set} {to : State}
    (number : op < v.system.operators) {e c : Suffix} (ok : EntryOk v (After e)) (le : v.system.cost op ≤ e.cost)
    (at : union_at back (e.cost - v.system.cost op) ≡ Some within) (found : JoinsEntry v (After e) op within e.state to)
    (grown : GrownAfter v back e op (v.system.cost op) to c) where
  abbrev z : System
  z = v.system

  longer : RunsInSystem z z.initial (e.operators.items ++ op ∷ []) to
  longer = joined z e.operators.items (op ∷ []) z.initial e.state to ok (to, found.0, refl)

  pub after_ok : EntryOk v (After c)
  after_ok = rw (grown.state_is, grown.operators_are) longer

  module _ (front : Layers Set) (f b listed : ℕ) (ready : Ready z v front back f b listed (as_plain_entry v (After e))) where
    near : e.cost - z.cost op < b
    near = omega (arith, ready.stands.2)

    in_back : member_in v back (e.cost - z.cost op) to ≡ true
    in_back = in_whole v (union_at back (e.cost - z.cost op)) within to at ∙ found.2

    on : onto z (member_in v back) e.cost e.operators.items op ≡ true
    on = rw (leb_yes (z.cost op) e.cost le, reach_run z z.initial e.operators.items e.state ok, found.0.step) in_back

    goal : ToGoalAt z (e.cost - z.cost op) to
    goal = ready.sides.tables.back_sound (e.cost - z.cost op) to near in_back

    useful : Useful z to
    useful = record {
      before = (
        cost_in_system z (e.operators.items ++ op ∷ []),
        (e.operators.items ++ op ∷ [], longer, refl),
      );
      after = (e.cost - z.cost op, goal);
    }

    one : (t : State) → RunsInSystem z z.initial (e.operators.items ++ op ∷ []) t → t ≡ to
    one t r = run_one z z.initial (e.operators.items ++ op ∷ []) t to r longer

    ring_at_end : (n : ℕ) → BwdIn z (e.cost - z.cost op) n to → (c.ring ≤ n) × StandsIn v back (e.cost - z.cost op) c.ring to
    ring_at_end n g =
        let there = ready.sides.back_rings.there (e.cost - z.cost op) n to near useful g in
        let l = grown.least there.0 there.2 in
        (omega (arith, l.0, there.1), l.1)

    pub after_child : IsChild z (member_in v front) (member_in v back) (as_plain_entry v (After e)) op (as_plain_entry v (After c))
    after_child =
        let there = (ring_at_end (zeros z goal.0) (goal.0, goal.1, goal.2, goal.3, goal.4, refl)).1 in
        let in_ring = ready.sides.back_rings.sound (e.cost - z.cost op) c.ring to near useful there in (
          on,
          grown.cost_is,
          grown.operators_are,
          (
            to,
            subst (λ (x : List ℕ). RunsInSystem z z.initial x to) (sym grown.operators_are) longer,
            subst
                (λ (x : ℕ). BwdIn z x c.ring to) (sym grown.cost_is) in_ring,
          ),
          (λ s n r g.
              let is : s ≡ to = one s (subst (λ (x : List ℕ). RunsInSystem z z.initial x s) grown.operators_are r) in
              (ring_at_end n (subst (λ (x : State). BwdIn z (e.cost - z.cost op) n x) is (subst (λ (x : ℕ). BwdIn z x n s) grown.cost_is g))).0),
          number,
        )
