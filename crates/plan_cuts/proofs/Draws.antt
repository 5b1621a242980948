-- Drawing the next cut, finding that none is left, and going on to the next cost.
use Rattle.std.proofs.Common.{◌≡◌, ℕ, ◌+◌, ◌<◌, ◌≤◌, ◌⊎◌, ◌↔◌, inl, inr, Bool, true, false, not, ◌&&◌, ◌||◌, eqb, ltb, List, [], ◌∷◌, Option, Some, None, refl, sym, ◌∙◌, ap, subst, arith, eq-eqb}
use Rattle.std.specs.Bool.{Decides}
use Rattle.std.proofs.lemmas.Bool.{eqb-true}
use Rattle.std.proofs.lemmas.Bool.Decides.{nat_tests, Decides-and, Decides-or, Decides-ltb, Decides-eqb}
use Rattle.task_system.specs.System.{State, System, IsSystemPlan, cost_in_system}
use Rattle.plan_cuts.specs.declared.Cut.{Cut}
use Rattle.plan_cuts.specs.declared.Cut.TheVariants.{Whole, Cross}
use Rattle.plan_cuts.specs.EntryCuts.{cut_of, same_cut}
use Rattle.plan_cuts.specs.Counts.{one_if}
use Rattle.plan_cuts.specs.Entries.{PlainEntry, Tables, StandsOnLayers, entry_hits, places, Owed, Lawful}
use Rattle.plan_cuts.proofs.EntryCutting.{cut_is, cost_append, falsum}
use Rattle.plan_cuts.proofs.Paths.{both, either}
use Rattle.plan_cuts.proofs.Drawing.{draws}
use Rattle.plan_cuts.specs.Cuts.{IsCutAt, IsNextCut, Precedes, Follows}
use Rattle.plan_cuts.specs.Drawing.{precedes, later, undrawn, Above}

clash : (b : Bool) → b ≡ true → b ≡ false → ⊥
clash b e f = cc

-- the order of cuts
by_order : (y y2 op op2 : ℕ) → (ltb y y2 || (eqb y y2 && ltb op op2)) ≡ false → (ltb y2 y || (eqb y2 y && ltb op2 op)) ≡ false → (y ≡ y2) × (op ≡ op2)
by_order y y2 op op2 h k = (grind (arith, nat_tests), grind (arith, nat_tests))

not_itself : (y op : ℕ) → (ltb y y || (eqb y y && ltb op op)) ≡ false
not_itself y op = grind (arith, nat_tests)

goes_on : (y y2 y3 op op2 op3 : ℕ) → (ltb y y2 || (eqb y y2 && ltb op op2)) ≡ true
    → (ltb y2 y3 || (eqb y2 y3 && ltb op2 op3)) ≡ true → (ltb y y3 || (eqb y y3 && ltb op op3)) ≡ true
goes_on y y2 y3 op op2 op3 h k = grind (arith, nat_tests)

pub precedes_trans : (a c d : Cut) → precedes a c ≡ true → precedes c d ≡ true → precedes a d ≡ true
precedes_trans Whole Whole d h k = absurd (falsum h)
precedes_trans Whole (Cross x op y) Whole h k = absurd (falsum k)
precedes_trans Whole (Cross x op y) (Cross x2 op2 y2) h k = refl
precedes_trans (Cross x op y) Whole d h k = absurd (falsum h)
precedes_trans (Cross x op y) (Cross x2 op2 y2) Whole h k = absurd (falsum k)
precedes_trans (Cross x op y) (Cross x2 op2 y2) (Cross x3 op3 y3) h k = goes_on y y2 y3 op op2 op3 h k

pub later_trans : (a : Option Cut) (c d : Cut) → later a c ≡ true → precedes c d ≡ true → later a d ≡ true
later_trans None c d h k = refl
later_trans (Some a) c d h k = precedes_trans a c d h k

pub precedes_self : (c : Cut) → precedes c c ≡ false
precedes_self Whole = refl
precedes_self (Cross x op y) = not_itself y op

pub same_is : (c d : Cut) → same_cut c d ≡ true → c ≡ d
same_is Whole Whole h = refl
same_is Whole (Cross x op y) h = absurd (falsum h)
same_is (Cross x op y) Whole h = absurd (falsum h)
same_is (Cross x op y) (Cross x2 op2 y2) h =
    let p = both (eqb op op2) (eqb y y2 && eqb x x2) h in
    let q = both (eqb y y2) (eqb x x2) p.1 in
    ap (λ (z : ℕ). Cross z op y) (eqb-true x x2 q.1) ∙ ap (λ (z : ℕ). Cross x2 z y) (eqb-true op op2 p.0) ∙ ap (λ (z : ℕ). Cross x2 op2 z) (eqb-true y y2 q.0)

is_same : (x x2 op op2 y y2 : ℕ) → x ≡ x2 → op ≡ op2 → y ≡ y2 → same_cut (Cross x op y) (Cross x2 op2 y2) ≡ true
is_same x x2 op op2 y y2 e f g = rw (eq-eqb op op2 f, eq-eqb y y2 g, eq-eqb x x2 e) refl

-- the order of cuts is computed
precedes_told : (a c : Cut) → Decides (precedes a c) (Precedes a c)
precedes_told Whole Whole = ((λ e. falsum e), (λ x. absurd x))
precedes_told Whole (Cross x op r) = ((λ e. tt), (λ x. refl))
precedes_told (Cross x op r) Whole = ((λ e. falsum e), (λ x. absurd x))
precedes_told (Cross x op r) (Cross z k q) = Decides-or (ltb r q) (eqb r q && ltb op k) (Decides-ltb r q)
    (Decides-and (eqb r q) (ltb op k) (Decides-eqb r q) (Decides-ltb op k))

later_told : (a : Option Cut) (c : Cut) → Decides (later a c) (Follows a c)
later_told None c = ((λ e. tt), (λ x. refl))
later_told (Some a) c = precedes_told a c

is_false : (b : Bool) → (b ≡ true → ⊥) → b ≡ false
is_false true n = absurd (n refl)
is_false false n = refl

not_before : (n d : Cut) → (d ≡ n) ⊎ Precedes n d → precedes d n ≡ false
not_before n d h = elim h [
  | inl e ↦ subst (λ (c : Cut). precedes c n ≡ false) (sym e) (precedes_self n)
  | inr k ↦ is_false (precedes d n) (λ t. clash (precedes n n) (precedes_trans n d n ((precedes_told n d).1 k) t) (precedes_self n))
]

-- the next cut by the test of the order
abbrev IsNext : System → ℕ → ℕ → Option Cut → Option Cut → Type 0
IsNext y b cost after None = (c : Cut) → IsCutAt y b cost c → later after c ≡ false
IsNext y b cost after (Some c) = IsCutAt y b cost c × (later after c ≡ true) × ((d : Cut) → IsCutAt y b cost d → later after d ≡ true → precedes d c ≡ false)

next_is : (y : System) (b cost : ℕ) (after o : Option Cut) → IsNextCut y b cost after o → IsNext y b cost after o
next_is y b cost after None n = λ c at. is_false (later after c) (λ t. n c at ((later_told after c).0 t))
next_is y b cost after (Some c) n = (
  n.0,
  (later_told after c).1 n.1,
  (λ d at t. not_before c d (n.2 d at ((later_told after d).0 t))),
)

module _ (y : System) (b cost : ℕ) where
  -- what the parts of a cut cost together
  parts : (x op r : ℕ) → IsCutAt y b cost (Cross x op r) → x + (y.cost op + r) ≡ cost
  parts x op r c = let k = c.2 in omega (arith, ap (cost_in_system y) k.2, cost_append y k.0 (op ∷ k.1), k.3, k.4, c.1.1)

  pub one_of : (c d : Cut) → IsCutAt y b cost c → IsCutAt y b cost d → precedes c d ≡ false → precedes d c ≡ false → same_cut d c ≡ true
  one_of Whole Whole p q h k = refl
  one_of Whole (Cross x op r) p q h k = absurd (falsum (sym h))
  one_of (Cross x op r) Whole p q h k = absurd (falsum (sym k))
  one_of (Cross x op r) (Cross x2 op2 r2) p q h k =
      let e = by_order r r2 op op2 h k in
      let w : y.cost op ≡ y.cost op2 = ap y.cost e.1 in
      is_same x2 x op2 op r2 r (omega (arith, parts x op r p, parts x2 op2 r2 q, e.0, w)) (sym e.1) (sym e.0)

  pub cut_at : 0 < b → (p : List ℕ) → IsSystemPlan y p → cost_in_system y p ≡ cost → IsCutAt y b cost (cut_of y b p)
  cut_at pos p plan is = (p, (plan, is), cut_is y b p pos)

  -- what is left once c is drawn
  pub left_is : (after : Option Cut) (c d : Cut) → IsNextCut y b cost after (Some c) → IsCutAt y b cost d → precedes c d ≡ (later after d && not (same_cut d c))
  left_is after c d first at = by_same (same_cut d c) refl
    where
      next : IsNext y b cost after (Some c)
      next = next_is y b cost after (Some c) first

      by_later : (l : Bool) → later after d ≡ l → same_cut d c ≡ false → precedes c d ≡ (l && not false)
      by_later true e off = elim (either (precedes c d)) [
        | inl h ↦ h
        | inr h ↦ absurd (clash (same_cut d c) (one_of c d next.0 at h (next.2 d at e)) off)
      ]
      by_later false e off = elim (either (precedes c d)) [
        | inl h ↦ absurd (clash (later after d) (later_trans after c d next.1 h) e)
        | inr h ↦ h
      ]

      none : (l : Bool) → false ≡ (l && not true)
      none true = refl
      none false = refl

      by_same : (s : Bool) → same_cut d c ≡ s → precedes c d ≡ (later after d && not s)
      by_same true e = ap (precedes c) (same_is d c e) ∙ precedes_self c ∙ none (later after d)
      by_same false e = by_later (later after d) refl e

  module _ (front back : ℕ → State → Bool) (f : ℕ) (pos : 0 < b) where
    -- one more cut is drawn
    module _ (after : Option Cut) (c : Cut) (e : PlainEntry) (next : IsNextCut y b cost after (Some c))
        (stands : StandsOnLayers y f b cost e) (hits : (p : List ℕ) → IsSystemPlan y p → cost_in_system y p ≡ cost → entry_hits y e p
        ≡ one_if (same_cut (cut_of y b p) c)) where
      pub drawn_places : (p : List ℕ) → IsSystemPlan y p → cost_in_system y p ≡ cost
          → places y b (e ∷ []) (undrawn true (Some c)) p ≡ places y b [] (undrawn true after) p
      drawn_places p plan is =
          let at = cut_at pos p plan is in
          draws y b e c (undrawn true after) (undrawn true (Some c)) p (hits p plan is)
          (λ h. rw (same_is (cut_of y b p) c h) ((later_told after c).1 next.1))
          (left_is after c (cut_of y b p) next at)

      pub drawn_lawful : Lawful y front back f b cost [] (undrawn true after) → Lawful y front back f b cost (e ∷ []) (undrawn true (Some c))
      drawn_lawful ok = record {
        tables = ok.tables;
        stands = (stands, tt);
        once = λ p plan is. omega (arith, drawn_places p plan is, ok.once p plan is);
      }

      pub drawn_owed : (p : List ℕ) → Owed y b cost (e ∷ []) (undrawn true (Some c)) p ↔ Owed y b cost [] (undrawn true after) p
      drawn_owed p = (
        (λ h. (h.0, elim h.1 [ inl a ↦ inl a | inr k ↦ inr (k.0, omega (arith, drawn_places p h.0 k.0, k.1)) ])),
        (λ h. (h.0, elim h.1 [ inl a ↦ inl a | inr k ↦ inr (k.0, omega (arith, drawn_places p h.0 k.0, k.1)) ])),
      )

    -- no cut is left
    module _ (after : Option Cut) (none : IsNextCut y b cost after None) where
      none_places : (p : List ℕ) → IsSystemPlan y p → cost_in_system y p ≡ cost → places y b [] (undrawn true after) p ≡ 0
      none_places p plan is = let off : later after (cut_of y b p) ≡ false = next_is y b cost after None none
          (cut_of y b p) (cut_at pos p plan is) in omega (arith, ap one_if off)

      pub none_lawful : Tables y front back f b → Lawful y front back f b cost [] (undrawn false after)
      none_lawful tables = record { tables = tables; stands = tt; once = λ p plan is. omega arith }

      pub none_owed : (p : List ℕ) → Owed y b cost [] (undrawn false after) p ↔ Owed y b cost [] (undrawn true after) p
      none_owed p = (
        (λ h. (h.0, elim h.1 [ inl a ↦ inl a | inr k ↦ absurd (omega (arith, k.1)) ])),
        (λ h. (h.0, elim h.1 [ inl a ↦ inl a | inr k ↦ absurd (omega (arith, none_places p h.0 k.0, k.1)) ])),
      )

-- a new cost: nothing is left of the one before, and none between them has a plan
pub next_lawful : (y : System) (front back : ℕ → State → Bool) (f b cost : ℕ) → Tables y front back f b → Lawful y front back f b cost [] (undrawn true None)
next_lawful y front back f b cost tables = record { tables = tables; stands = tt; once = λ p plan is. omega arith }

same_or : (a c : ℕ) → c ≤ a → (c < a) ⊎ (a ≡ c)
same_or a c h = grind arith

pub next_owed : (y : System) (b b2 : ℕ) (listed : Option ℕ) (cost : ℕ)
    → ((p : List ℕ) → Above y listed p → cost ≤ cost_in_system y p)
    → ((p : List ℕ) → IsSystemPlan y p → cost ≤ cost_in_system y p → Above y listed p) → (p : List ℕ)
    → Owed y b2 cost [] (undrawn true None) p ↔ Above y listed p
next_owed y b b2 listed cost least above p = (
  (λ h. above p h.0 (elim h.1 [ inl a ↦ omega (arith, a) | inr k ↦ omega (arith, k.0) ])),
  (λ h. let plan = plan_of listed h in (plan, elim (same_or (cost_in_system y p) cost (least p h)) [ inl a ↦ inl a | inr e ↦ inr (e, refl) ])),
)
  where
    plan_of : (l : Option ℕ) → Above y l p → IsSystemPlan y p
    plan_of None h = h
    plan_of (Some c) h = h.0
