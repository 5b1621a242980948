-- What the layers give of one entry.
use Rattle.std.proofs.Common.{◌≡◌, ℕ, ◌+◌, ◌-◌, ◌<◌, ◌≤◌, Bool, true, false, ◌&&◌, eqb, leb, IsTrue, ◌⊎◌, inl, inr, List, [], ◌∷◌, ◌++◌, refl, sym, ◌∙◌, ap, subst, arith, eq-eqb}
use Rattle.std.proofs.lemmas.Bool.Decides.{nat_tests}
use Rattle.task_system.specs.System.{State, System, Leads, RunsInSystem, IsSystemPlan, cost_in_system}
use Rattle.run_graph.specs.Reached.{ReachedAt, ToGoalAt, Useful}
use Rattle.plan_cuts.proofs.Ends.{fwd_more}
use Rattle.task_system.specs.System.{are_equal}
use Rattle.plan_cuts.specs.Counts.{one_if, at_some, sum_over_operators, begins}
use Rattle.plan_cuts.specs.Entries.{PlainEntry, Head, Tail, Tables, into, onto, entry_hits, child_hits, begun_hits, StandsOnLayers, FollowsEntry, Done, Open}
use Rattle.plan_cuts.proofs.EntryCutting.{cost_append, leb_yes}
use Rattle.plan_cuts.proofs.Before.{Along, splits}
use Rattle.plan_cuts.proofs.After.{Covers, after_splits}
use Rattle.plan_cuts.proofs.Paths.{some_is, both, either, le_of, equal_is, reach_run, run_one, parted, led}

ne : (d cost : ℕ) → (d ≡ cost → ⊥) → eqb d cost ≡ false
ne d cost n = grind (arith, nat_tests)

fits : (d w c : ℕ) → (d + w ≡ c) ⊎ (d + w ≡ c → ⊥)
fits d w c = grind (arith, nat_tests)

apart : (d w c : ℕ) → (d + w ≡ c → ⊥) → (b : Bool) → (eqb d (c - w) && (leb w c && b)) ≡ false
apart d w c n b = grind (arith, nat_tests)

module _ (y : System) (front back : ℕ → State → Bool) (f b listed : ℕ) (tab : Tables y front back f b) where
  module _ (has : State → Bool) (cost : ℕ) (low : cost < f) where
    -- along a plan, the children are those that the layers tell
    backs : (d : ℕ) (s : State) → ReachedAt y d s → Useful y s → (op : ℕ) → op < y.operators
        → (eqb d (cost - y.cost op) && into y front has cost op s)
        ≡ (eqb (d + y.cost op) cost && at_some (y.step op s) has)
    backs d s g u op n = elim (fits d (y.cost op) cost) [
      | inl eq ↦
          let there = tab.front_all d s (omega (arith, low, eq)) u g in
          let same : cost - y.cost op ≡ d = omega (arith, eq) in
          let le : leb (y.cost op) cost ≡ true = leb_yes _ _ (omega (arith, eq)) in
          rw (same, le, there, eq-eqb d d refl, eq-eqb _ _ eq) refl
      | inr n0 ↦
          let n : eqb (d + y.cost op) cost ≡ false = ne _ _ n0 in
          rw n (apart d (y.cost op) cost n0 (front (cost - y.cost op) s && at_some (y.step op s) has))
    ]

    along : (test : List ℕ → Bool) (p : List ℕ) (d : ℕ) (s t : State) → ReachedAt y d s → RunsInSystem y s p t
        → IsTrue (y.goal t) → Along y has cost test (into y front has cost) (λ op. cost - y.cost op) d s p
    along test [] d s t g run goal =
        backs d s g (record {
          before = (d, g);
          after = (
            0,
            ([], s, refl, subst (λ (x : State). IsTrue (y.goal x)) (sym run) goal, refl),
          );
        })
    along test (op ∷ p) d s t g (m, leads, run) goal = (
      backs d s g (record { before = (d, g); after = (y.cost op + cost_in_system y p, (op ∷ p, t, (m, leads, run), goal, refl)) }),
      leads.number,
      (λ n step. let same : n ≡ m = some_is n m (sym step ∙ leads.step) in
          let l : Leads y op s n = record { number = leads.number; step = step } in
          along test p (d + y.cost op) n t (fwd_more y d op s n g l) (subst (λ (x : State). RunsInSystem y x p t) (sym same) run) goal),
    )

  pub head_splits : (has : State → Bool) (cost ring : ℕ) (ops : List ℕ) (after : ℕ) (p : List ℕ) → cost < f
      → IsSystemPlan y p → entry_hits y (Head has cost ring ops after) p ≡ begun_hits y (Head has cost ring ops after) p
      + sum_over_operators y.operators (child_hits y front back (Head has cost ring ops after) p)
  head_splits has cost ring ops after p low (t, run, goal) =
      splits y has cost (begins y ops after) (into y front has cost) (λ op. cost - y.cost op) p 0 y.initial
      (along has cost low (begins y ops after) p 0 y.initial t ([], refl, refl) run goal)

  covers : (cost : ℕ) (ops : List ℕ) (s : State) → cost < b → RunsInSystem y y.initial ops s → (r : List ℕ)
      → IsSystemPlan y (ops ++ r) → Covers y cost (onto y back cost ops) r
  covers cost ops s low at r (t, run, goal) =
      let m = parted y ops r y.initial t run in
      let here : m.0 ≡ s = run_one y y.initial ops m.0 s m.1 at in
      let rest : RunsInSystem y s r t = subst (λ (x : State). RunsInSystem y x r t) here m.2 in
      record {
        there = λ k q is e.
            let both_parts = subst (λ (x : List ℕ). RunsInSystem y s x t) is rest in
            let n = both_parts.0 in
            let leads = both_parts.1 in
            let left : cost - y.cost k ≡ cost_in_system y q = omega (arith, e) in
            let bwd : ToGoalAt y (cost_in_system y q) n = (q, t, both_parts.2, goal, refl) in
            let fwd : ReachedAt y (cost_in_system y ops + y.cost k) n = fwd_more y (cost_in_system y ops) k s n (ops, at, refl) leads in
            let useful : Useful y n = record { before = (cost_in_system y ops + y.cost k, fwd); after = (cost_in_system y q, bwd) } in
            let there : back (cost - y.cost k) n ≡ true = rw left (tab.back_all (cost_in_system y q) n (omega (arith, e, low)) useful bwd) in
            rw (leb_yes (y.cost k) cost (omega (arith, e)), reach_run y y.initial ops s at, leads.step) there;
        fits = λ k h. le_of _ _ (both _ _ h).0;
        number = λ k q is. (subst (λ (x : List ℕ). RunsInSystem y s x t) is rest).1.number;
      }

  pub tail_splits : (cost ring : ℕ) (ops : List ℕ) (p : List ℕ) (s : State) → cost < b → RunsInSystem y y.initial ops s
      → IsSystemPlan y p → entry_hits y (Tail cost ring ops) p ≡ one_if (are_equal p ops && eqb cost 0) + sum_over_operators y.operators
      (child_hits y front back (Tail cost ring ops) p)
  tail_splits cost ring ops p s low at plan = after_splits y cost (onto y back cost ops) ops p
      (λ r is. covers cost ops s low at r (subst (λ (x : List ℕ). IsSystemPlan y x) is plan))

  no_plan : (cost : ℕ) (ops p : List ℕ) → (cost ≡ 0 → IsSystemPlan y ops → ⊥) → IsSystemPlan y p → one_if (are_equal p ops && eqb cost 0) ≡ 0
  no_plan cost ops p «open» plan = elim (either (are_equal p ops && eqb cost 0)) [
    | inl h ↦
        let h2 = both _ _ h in
        let e : p ≡ ops = equal_is p ops h2.0 in
        absurd («open» (zero_of cost h2.1) (subst (λ (x : List ℕ). IsSystemPlan y x) e plan))
    | inr h ↦ ap one_if h
  ]
    where
      zero_of : (c : ℕ) → eqb c 0 ≡ true → c ≡ 0
      zero_of c h = grind (arith, nat_tests)

  -- a plan extends an open entry as often as what follows it
  pub open_splits : (e : PlainEntry) (p : List ℕ) → StandsOnLayers y f b listed e → Open y e → IsSystemPlan y p
      → entry_hits y e p ≡ begun_hits y e p + sum_over_operators y.operators (child_hits y front back e p)
  open_splits (Head has cost ring ops after) p st o plan = head_splits has cost ring ops after p st.4 plan
  open_splits (Tail cost ring ops) p st o plan = omega (arith, tail_splits cost ring ops p st.0.0 st.2 st.0.1 plan, no_plan cost ops p o plan)

  and_true : (a : Bool) → one_if (a && true) ≡ one_if a
  and_true true = refl
  and_true false = refl

  -- a plan extends a finished entry as often as its children, and once more if it is the plan there
  pub done_splits : (e : PlainEntry) (p q : List ℕ) → StandsOnLayers y f b listed e → Done y e p → IsSystemPlan y q
      → entry_hits y e q ≡ one_if (are_equal q p) + sum_over_operators y.operators (child_hits y front back e q)
  done_splits (Head has cost ring ops after) p q st d plan = absurd d
  done_splits (Tail cost ring ops) p q st d plan =
      let one : one_if (are_equal q ops && eqb cost 0) ≡ one_if (are_equal q p) = rw (d.0, d.1) (and_true (are_equal q ops)) in
      omega (arith, tail_splits cost ring ops q st.0.0 st.2 st.0.1 plan, one)

  pub follows_stand : (e c : PlainEntry) → StandsOnLayers y f b listed e → FollowsEntry y front back e c → StandsOnLayers y f b listed c
  follows_stand (Head has cost ring ops after) (Head has2 cost2 ring2 ops2 after2) st (inl (k, (same, left, longer, same_after, member, least, number))) =
      let first = (both _ _ (sym (same member.0) ∙ member.1)) in
      let le : y.cost k ≤ cost = le_of _ _ first.0 in
      let place : cost2 + cost_in_system y ops2 + after2 ≡ listed = rw (left, longer, same_after) (omega (arith, st.3, le)) in (
        member,
        (λ s h. let p = both _ _ (both _ _ (sym (same s) ∙ h)).1 in subst (λ (c : ℕ). ReachedAt y c s) (sym left)
            (tab.front_sound (cost - y.cost k) s (omega (arith, st.4)) p.0)),
        (λ s h. let p = both _ _ (both _ _ (sym (same s) ∙ h)).1 in
            let t = led y k s has (y.step k s) number refl p.1 in
            let m = st.2 t.0 t.1 in
            rw (longer, same_after) (m.0, (t.0, t.2, m.1), m.2)),
        place,
        omega (arith, left, st.4),
        omega (arith, same_after, st.5),
      )
  follows_stand (Head has cost ring ops after) (Head has2 cost2 ring2 ops2 after2) st (inr x) = absurd x
  follows_stand (Head has cost ring ops after) (Tail cost2 ring2 ops2) st (inl (k, x)) = absurd x
  follows_stand (Head has cost ring ops after) (Tail cost2 ring2 ops2) st (inr (z, start, left, same, member)) =
      (member, rw (same, left) (omega (arith, st.3, z)), omega (arith, left, st.5))
  follows_stand (Tail cost ring ops) (Tail cost2 ring2 ops2) st (inl (k, (ok, left, longer, member, least, number))) =
      let le : y.cost k ≤ cost = le_of _ _ (both _ _ ok).0 in
      (member, rw (left, longer) (omega (arith, cost_append y ops (k ∷ []), st.1, le)), omega (arith, left, st.2))
  follows_stand (Tail cost ring ops) (Tail cost2 ring2 ops2) st (inr x) = absurd x
  follows_stand (Tail cost ring ops) (Head has2 cost2 ring2 ops2 after2) st (inl (k, x)) = absurd x
  follows_stand (Tail cost ring ops) (Head has2 cost2 ring2 ops2 after2) st (inr x) = absurd x
