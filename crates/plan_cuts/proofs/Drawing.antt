-- What the layers give of cuts, of what falls, and of layers that are cut to the useful states.
use Rattle.std.proofs.Common.{◌≡◌, ℕ, suc, ◌+◌, ◌-◌, ◌<◌, ◌≤◌, Bool, true, false, not, ◌&&◌, IsTrue, ◌⊎◌, inl, inr, List, [], ◌∷◌, ◌++◌, Some, refl, sym, ◌∙◌, subst, arith, eq-eqb}
use Rattle.std.proofs.lemmas.Bool.{eqb-true}
use Rattle.task_system.specs.System.{State, System, Leads, RunsInSystem, IsSystemPlan, cost_in_system}
use Rattle.run_graph.specs.Reached.{ReachedAt, ToGoalAt, Useful}
use Rattle.plan_cuts.proofs.Ends.{fwd_of_ends, fwd_more, bwd_more}
use Rattle.plan_cuts.specs.Counts.{one_if, at_some, begins}
use Rattle.plan_cuts.specs.EntryCuts.{IsCut, cut_of, same_cut}
use Rattle.plan_cuts.specs.Entries.{PlainEntry, Head, Tail, FwdIn, BwdIn, Tables, into, onto, entry_hits, StandsOnLayers, places, zeros}
use Rattle.plan_cuts.specs.declared.Cut.{Cut}
use Rattle.plan_cuts.specs.declared.Cut.TheVariants.{Cross}
use Rattle.plan_cuts.proofs.EntryCutting.{falsum, leb_yes, Meeting, hits_spots, drawn_spots}
use Rattle.plan_cuts.proofs.Paths.{both, led, parted, joined, reach_run}

-- the members of layer d from which the operator leads into layer r
abbrev pub meeting : System → (ℕ → State → Bool) → (ℕ → State → Bool) → ℕ → ℕ → ℕ → State → Bool
meeting y front back d op r s = front d s && at_some (y.step op s) (back r)

zero_or : (n : ℕ) → (n ≡ 0) ⊎ (0 < n)
zero_or n = grind arith

module _ (y : System) (front back : ℕ → State → Bool) (f b : ℕ) (tab : Tables y front back f b) where
  both_of : (a c : Bool) → a ≡ true → c ≡ true → (a && c) ≡ true
  both_of a c e h = rw (e, h) refl

  -- a cut whose layers both stand below the bounds
  module _ (d op r : ℕ) (low : d < f) (near : r < b) where
    at_cut : (c : ℕ) (s t : State) (p : List ℕ) → ReachedAt y c s → RunsInSystem y s p t
        → IsTrue (y.goal t) → begins y (op ∷ []) r p ≡ true → c ≡ d → meeting y front back d op r s ≡ true
    at_cut c s t [] g run goal h e = absurd (falsum h)
    at_cut c s t (a ∷ p) g (m, leads, run) goal h e =
        let parts = both _ _ h in
        let is : a ≡ op = eqb-true a op parts.0 in
        let left : cost_in_system y p ≡ r = eqb-true _ _ parts.1 in
        let lead : Leads y op s m = subst (λ (k : ℕ). Leads y k s m) is leads in
        let bwd : ToGoalAt y r m = (p, t, run, goal, left) in
        let fwd : ReachedAt y d s = subst (λ (k : ℕ). ReachedAt y k s) e g in
        let u : Useful y s = record { before = (d, fwd); after = (y.cost op + r, bwd_more y r op s m lead bwd) } in
        let w : Useful y m = record { before = (d + y.cost op, fwd_more y d op s m fwd lead); after = (r, bwd) } in
        rw lead.step (both_of _ _ (tab.front_all d s low u fwd) (tab.back_all r m near w bwd))

    meets : (c : ℕ) (s t : State) (p : List ℕ) → ReachedAt y c s → RunsInSystem y s p t
        → IsTrue (y.goal t) → Meeting y (meeting y front back d op r) d (begins y (op ∷ []) r) c s p
    meets c s t [] g run goal = (λ h e. at_cut c s t [] g run goal h e)
    meets c s t (a ∷ p) g (m, leads, run) goal = (
      (λ h e. at_cut c s t (a ∷ p) g (m, leads, run) goal h e),
      (m, leads.step, meets (c + y.cost a) m t p (fwd_more y c a s m g leads) run goal),
    )

  -- a plan extends the entry that a cut begins with exactly where the cut is its own
  pub cross_hits : (d op r ring : ℕ) (p : List ℕ) → d < f → r < b → b ≤ y.cost op + r → IsSystemPlan y p
      → entry_hits y (Head (meeting y front back d op r) d ring (op ∷ []) r) p ≡ one_if
      (same_cut (cut_of y b p) (Cross d op r))
  cross_hits d op r ring p low near far (t, run, goal) =
      hits_spots y (meeting y front back d op r) d (begins y (op ∷ []) r) 0 y.initial p
      (meets d op r low near 0 y.initial t p ([], refl, refl) run goal)
      ∙ drawn_spots y b d op r p near far

  -- each plan's cut is found where the layers meet
  pub cross_there : (p : List ℕ) (d op r : ℕ) → IsSystemPlan y p → IsCut y b p (Cross d op r) → d < f → (s : State) × (meeting y front back d op r s ≡ true)
  cross_there p d op r (t, run, goal) (q, rest, is, x, z, near, far) low =
      let m = parted y q (op ∷ rest) y.initial t (subst (λ (l : List ℕ). RunsInSystem y y.initial l t) is run) in
      let test : begins y (op ∷ []) r (op ∷ rest) ≡ true = rw (eq-eqb op op refl) (eq-eqb _ _ z) in
      (m.0, at_cut d op r low near d m.0 t (op ∷ rest) (q, m.1, x) m.2 goal test refl)

  -- what the first entry of a cut stands on
  pub cross_stands : (d op r ring listed : ℕ) → op < y.operators → d < f → r < b → d + y.cost op + r ≡ listed
      → ((s : State) × (meeting y front back d op r s ≡ true) × FwdIn y d ring s)
      → StandsOnLayers y f b listed (Head (meeting y front back d op r) d ring (op ∷ []) r)
  cross_stands d op r ring listed number low near c member = (
    member,
    (λ s h. tab.front_sound d s low (both (front d s) (at_some (y.step op s) (back r)) h).0),
    (λ s h. let t = led y op s (back r) (y.step op s) number refl (both (front d s) (at_some (y.step op s) (back r)) h).1 in (t.0, (t.0, t.2, refl), tab.back_sound r t.0 near t.1)),
    omega (arith, c),
    low,
    near,
  )

  into_parts : (has : State → Bool) (cost k : ℕ) (s t : State) → y.cost k ≤ cost → front (cost - y.cost k) s ≡ true
      → y.step k s ≡ Some t → has t ≡ true → into y front has cost k s ≡ true
  into_parts has cost k s t le there step h = rw (leb_yes (y.cost k) cost le, there, step) h

  -- some child falls, or the prefix is whole
  pub head_falls : (has : State → Bool) (cost ring listed : ℕ) (ops : List ℕ) (after : ℕ)
      → StandsOnLayers y f b listed (Head has cost ring ops after) → ((cost ≡ 0) × (has y.initial ≡ true))
      ⊎ ((k : ℕ) × (n : ℕ) × (t : State) × (k < y.operators) × (into y front has cost k t ≡ true)
      × FwdIn y (cost - y.cost k) n t × ((0 < y.cost k) ⊎ ((y.cost k ≡ 0) × (n + 1 ≡ ring))))
  head_falls has cost ring listed ops after ((s, member, ([], ends, c, z)), sound, leads, costs, low, near) =
      inl (sym c, subst (λ (x : State). has x ≡ true) ends member)
  head_falls has cost ring listed ops after ((s, member, (k ∷ q, (t, lead, ends), c, z)), sound, leads, costs, low, near) =
      let left : cost_in_system y q ≡ cost - y.cost k = omega (arith, c) in
      let le : y.cost k ≤ cost = omega (arith, c) in
      let m = leads s member in
      let fwd : ReachedAt y (cost_in_system y q) t = fwd_of_ends y q t ends in
      let e = m.2 in
      let bwd : ToGoalAt y (cost_in_system y (k ∷ ops ++ e.0)) t = (k ∷ ops ++ e.0, e.1, (s, lead, joined y ops e.0 s m.0 e.1 m.1 e.2), e.3, refl) in
      let serves : Useful y t = record { before = (cost_in_system y q, fwd); after = (cost_in_system y (k ∷ ops ++ e.0), bwd) } in
      let there : front (cost - y.cost k) t ≡ true = tab.front_all (cost - y.cost k) t (omega (arith, low)) serves
      (subst (λ (x : ℕ). ReachedAt y x t) left fwd) in
      let fall : (0 < y.cost k) ⊎ ((y.cost k ≡ 0) × (zeros y q + 1 ≡ ring)) = elim (zero_or (y.cost k)) [
        | inl w ↦ inr (w, (let one : zeros y (k ∷ q) ≡ suc (zeros y q) = rw (eq-eqb (y.cost k) 0 w) refl in omega (arith, one, z)))
        | inr w ↦ inl w
      ] in
      inr (k, zeros y q, t, lead.number, into_parts has cost k t s le there lead.step member, (q, ends, left, refl), fall)

  pub tail_falls : (cost ring listed : ℕ) (ops : List ℕ) → StandsOnLayers y f b listed (Tail cost ring ops)
      → ((cost ≡ 0) × IsSystemPlan y ops) ⊎ ((k : ℕ) × (n : ℕ) × (t : State) × (k < y.operators)
      × (onto y back cost ops k ≡ true) × RunsInSystem y y.initial (ops ++ k ∷ []) t × BwdIn y (cost - y.cost k) n t
      × ((0 < y.cost k) ⊎ ((y.cost k ≡ 0) × (n + 1 ≡ ring))))
  tail_falls cost ring listed ops ((s, run, ([], t, e, goal, c, z)), costs, near) = inl (sym c, (s, run, subst (λ (x : State). IsTrue (y.goal x)) (sym e) goal))
  tail_falls cost ring listed ops ((s, run, (k ∷ p, u, (t, lead, rest), goal, c, z)), costs, near) =
      let left : cost_in_system y p ≡ cost - y.cost k = omega (arith, c) in
      let le : y.cost k ≤ cost = omega (arith, c) in
      let bwd : ToGoalAt y (cost - y.cost k) t = (p, u, rest, goal, left) in
      let serves : Useful y t =
      record {
        before = (cost_in_system y ops + y.cost k, fwd_more y (cost_in_system y ops) k s t (ops, run, refl) lead);
        after = (cost - y.cost k, bwd);
      } in
      let there : back (cost - y.cost k) t ≡ true = tab.back_all (cost - y.cost k) t (omega (arith, near)) serves bwd in
      let ok : onto y back cost ops k ≡ true = rw (leb_yes (y.cost k) cost le, reach_run y y.initial ops s run, lead.step) there in
      let fall : (0 < y.cost k) ⊎ ((y.cost k ≡ 0) × (zeros y p + 1 ≡ ring)) = elim (zero_or (y.cost k)) [
        | inl w ↦ inr (w, (let one : zeros y (k ∷ p) ≡ suc (zeros y p) = rw (eq-eqb (y.cost k) 0 w) refl in omega (arith, one, z)))
        | inr w ↦ inl w
      ] in
      inr (k, zeros y p, t, lead.number, ok, joined y ops (k ∷ []) y.initial s t run (t, lead, refl), (p, u, rest, goal, left, refl), fall)

spent : (a c : Bool) (x : Bool) → (c ≡ true → a ≡ true) → x ≡ (a && not c) → one_if c + one_if x ≡ one_if a
spent true true x h e = rw e (omega arith)
spent true false x h e = rw e (omega arith)
spent false true x h e = absurd (falsum (h refl))
spent false false x h e = rw e (omega arith)

-- a cut that is drawn goes on as its first entry
pub draws : (y : System) (b : ℕ) (e : PlainEntry) (c : Cut) (undrawn left : Cut → Bool) (p : List ℕ)
    → entry_hits y e p ≡ one_if (same_cut (cut_of y b p) c) → (same_cut (cut_of y b p) c ≡ true → undrawn
    (cut_of y b p) ≡ true) → left (cut_of y b p) ≡ (undrawn (cut_of y b p) && not (same_cut (cut_of y b p) c))
    → places y b (e ∷ []) left p ≡ places y b [] undrawn p
draws y b e c undrawn left p one owed rest = omega (arith, one, spent _ _ _ owed rest)
