-- A plan has exactly one cut.
use Rattle.std.proofs.Common.{◌≡◌, ℕ, ◌+◌, ◌<◌, ◌≤◌, Bool, true, false, ◌&&◌, eqb, leb, ◌⊎◌, inl, inr, List, [], ◌∷◌, ◌++◌, Some, refl, sym, ◌∙◌, ap, subst, arith}
use Rattle.std.proofs.lemmas.Bool.Decides.{nat_tests}
use Rattle.std.proofs.lemmas.Bool.{eqb-true}
use Rattle.task_system.specs.System.{State, System, cost_in_system}
use Rattle.plan_cuts.specs.EntryCuts.{IsCut, crossing, cut_of, same_cut}
use Rattle.plan_cuts.specs.Counts.{one_if, begins, hits}
use Rattle.plan_cuts.specs.declared.Cut.{Cut}
use Rattle.plan_cuts.specs.declared.Cut.TheVariants.{Whole, Cross}

pub falsum : false ≡ true → ⊥
falsum e = cc

pub leb_yes : (a b : ℕ) → a ≤ b → leb a b ≡ true
leb_yes a b h = grind (arith, nat_tests)

pub leb_no : (a b : ℕ) → b < a → leb a b ≡ false
leb_no a b h = grind (arith, nat_tests)

below_or : (a b : ℕ) → (a < b) ⊎ (b ≤ a)
below_or a b = grind arith

pub cost_append : (y : System) (p q : List ℕ) → cost_in_system y (p ++ q) ≡ cost_in_system y p + cost_in_system y q
cost_append y [] q = omega arith
cost_append y (op ∷ p) q = omega (arith, cost_append y p q)

crossing_at : (y : System) (b d : ℕ) (q : List ℕ) (op : ℕ) (r : List ℕ) → cost_in_system y r < b
    → b ≤ y.cost op + cost_in_system y r → crossing y b d (q ++ op ∷ r) ≡ Cross (d + cost_in_system y q) op (cost_in_system y r)
crossing_at y b d [] op r lt le =
    let e : d ≡ d + 0 = omega arith in
    rw (leb_no b (cost_in_system y r) lt) (ap (λ (n : ℕ). Cross n op (cost_in_system y r)) e)
crossing_at y b d (a ∷ q) op r lt le =
    let e : (d + y.cost a) + cost_in_system y q ≡ d + (y.cost a + cost_in_system y q) = omega arith in
    let far : b ≤ cost_in_system y (q ++ op ∷ r) = omega (arith, cost_append y q (op ∷ r), le) in
    rw (leb_yes b (cost_in_system y (q ++ op ∷ r)) far) (crossing_at y b (d + y.cost a) q op r lt le ∙ ap (λ (n : ℕ). Cross n op (cost_in_system y r)) e)

-- where p is cut
abbrev pub Parts : System → ℕ → List ℕ → Type 0
Parts y b p = (q : List ℕ) × (op : ℕ) × (r : List ℕ) × (p ≡ q ++ op ∷ r) × (cost_in_system y r < b) × (b ≤ y.cost op + cost_in_system y r)

pub parts : (y : System) (b : ℕ) (p : List ℕ) → 0 < b → b ≤ cost_in_system y p → Parts y b p
parts y b [] pos le = absurd (omega (arith, pos, le))
parts y b (op ∷ p) pos le = elim (below_or (cost_in_system y p) b) [
  | inl lt ↦ ([], op, p, refl, lt, le)
  | inr far ↦ let m = parts y b p pos far in (op ∷ m.0, m.1, m.2, ap (λ (x : List ℕ). op ∷ x) m.3, m.4, m.5)
]

pub cut_one : (y : System) (b : ℕ) (p : List ℕ) (c : Cut) → IsCut y b p c → cut_of y b p ≡ c
cut_one y b p Whole h = rw (leb_no b (cost_in_system y p) h) refl
cut_one y b p (Cross d op r) (q, s, is, x, z, lt, le) =
    let low : cost_in_system y s < b = omega (arith, z, lt) in
    let high : b ≤ y.cost op + cost_in_system y s = omega (arith, z, le) in
    let far : b ≤ cost_in_system y (q ++ op ∷ s) = omega (arith, cost_append y q (op ∷ s), high) in
    let from : 0 + cost_in_system y q ≡ d = omega (arith, x) in
    rw is (rw (leb_yes b (cost_in_system y (q ++ op ∷ s)) far) (crossing_at y b 0 q op s low high ∙ ap
    (λ (n : ℕ). Cross n op (cost_in_system y s)) from ∙ ap (λ (n : ℕ). Cross d op n) z))

pub cut_is : (y : System) (b : ℕ) (p : List ℕ) → 0 < b → IsCut y b p (cut_of y b p)
cut_is y b p pos = elim (below_or (cost_in_system y p) b) [
  | inl lt ↦ subst (λ (c : Cut). IsCut y b p c) (sym (cut_one y b p Whole lt)) lt
  | inr far ↦
      let m = parts y b p pos far in
      let c = Cross (cost_in_system y m.0) m.1 (cost_in_system y m.2) in
      let is : IsCut y b p c = (m.0, m.2, m.3, refl, refl, m.4, m.5) in
      subst (λ (c : Cut). IsCut y b p c) (sym (cut_one y b p c is)) is
]

-- the cut lies inside what both sides know, and the crossing operator costs something
pub cut_inside : (y : System) (f b : ℕ) (p : List ℕ) (d op r : ℕ) → IsCut y b p (Cross d op r) → cost_in_system y p < f + b
    → (d + y.cost op + r ≡ cost_in_system y p) × (d < f) × (r < b) × (0 < y.cost op)
cut_inside y f b p d op r (q, s, is, x, z, lt, le) c =
    let e : cost_in_system y p ≡ cost_in_system y q + (y.cost op + cost_in_system y s) = ap (cost_in_system y) is ∙ cost_append y q (op ∷ s) in
    (omega (arith, e, x, z), omega (arith, e, x, z, c, le), lt, omega (arith, lt, le))

-- the places of p where this much is spent and the list goes on as wanted
abbrev pub spots : System → ℕ → (List ℕ → Bool) → ℕ → List ℕ → ℕ
spots y cost test d [] = one_if (test [] && eqb d cost)
spots y cost test d (op ∷ p) = one_if (test (op ∷ p) && eqb d cost) + spots y cost test (d + y.cost op) p

off : (a b : ℕ) → (a ≡ b → ⊥) → eqb a b ≡ false
off a b n = grind (arith, nat_tests)

shift : (a b c : Bool) → ((a && b) && c) ≡ (a && (b && c))
shift true b c = refl
shift false b c = refl

miss : (a b c : Bool) → b ≡ false → one_if ((a && b) && c) ≡ 0
miss true b c e = rw e refl
miss false b c e = refl

none_left : (y : System) (b x op r d : ℕ) (p : List ℕ) → b ≤ y.cost op + r → cost_in_system y p < b → spots y x (begins y (op ∷ []) r) d p ≡ 0
none_left y b x op r d [] le lt = refl
none_left y b x op r d (a ∷ p) le lt = elim (same_or a op) [
  | inl e ↦
      let w : y.cost a ≡ y.cost op = ap y.cost e in
      omega (
        arith,
        miss (eqb a op) (eqb (cost_in_system y p) r) (eqb d x) (off _ _ (λ h. omega (arith, h, w, le, lt))),
        none_left y b x op r (d + y.cost a) p le (omega (arith, lt)),
      )
  | inr n ↦ omega (
    arith,
    ap (λ (z : Bool). one_if ((z && eqb (cost_in_system y p) r) && eqb d x)) (off a op n),
    none_left y b x
        op r (d + y.cost a) p le (omega (arith, lt)),
  )
]
  where
    same_or : (a b : ℕ) → (a ≡ b) ⊎ (a ≡ b → ⊥)
    same_or a b = grind (arith, nat_tests)

-- a place is found exactly where the plan has this cut
drawn_from : (y : System) (b x op r d : ℕ) (p : List ℕ) → r < b → b ≤ y.cost op + r
    → spots y x (begins y (op ∷ []) r) d p ≡ one_if (same_cut (crossing y b d p) (Cross x op r))
drawn_from y b x op r d [] lt le = refl
drawn_from y b x op r d (a ∷ p) lt le = elim (below_or (cost_in_system y p) b) [
  | inl low ↦
      let none = none_left y b x op r (d + y.cost a) p le low in
      let here : one_if ((eqb a op && eqb (cost_in_system y p) r) && eqb d x) ≡ one_if
      (eqb a op && (eqb (cost_in_system y p) r && eqb d x)) =
      ap one_if (shift (eqb a op) (eqb (cost_in_system y p) r) (eqb d x)) in
      rw (leb_no b (cost_in_system y p) low) (omega (arith, none, here))
  | inr far ↦
      let here = miss (eqb a op) (eqb (cost_in_system y p) r) (eqb d x) (off _ _ (λ h. omega (arith, h, far, lt))) in
      rw (leb_yes b (cost_in_system y p) far) (omega (arith, here, drawn_from y b x op r (d + y.cost a) p lt le))
]

pub drawn_spots : (y : System) (b x op r : ℕ) (p : List ℕ) → r < b → b ≤ y.cost op + r
    → spots y x (begins y (op ∷ []) r) 0 p ≡ one_if (same_cut (cut_of y b p) (Cross x op r))
drawn_spots y b x op r p lt le = elim (below_or (cost_in_system y p) b) [
  | inl low ↦ rw (leb_no b (cost_in_system y p) low) (none_left y b x op r 0 p le low)
  | inr far ↦ rw (leb_yes b (cost_in_system y p) far) (drawn_from y b x op r 0 p lt le)
]

-- along p the operators apply, and at each place that counts the state is in the set
abbrev pub Meeting : System → (State → Bool) → ℕ → (List ℕ → Bool) → ℕ → State → List ℕ → Type 0
Meeting y has cost test d s [] = (test [] ≡ true → d ≡ cost → has s ≡ true)
Meeting y has cost test d s (op ∷ p) = (test (op ∷ p) ≡ true → d ≡ cost → has s ≡ true)
    × ((t : State) × (y.step op s ≡ Some t) × Meeting y has cost test (d + y.cost op) t p)

counts : (a c : Bool) (d cost : ℕ) → (a ≡ true → d ≡ cost → c ≡ true) → one_if (a && (eqb d cost && c)) ≡ one_if (a && eqb d cost)
counts a c d cost h = by_cases a (eqb d cost) c refl h
  where
    by_cases : (a b c : Bool) → eqb d cost ≡ b → (a ≡ true → d ≡ cost → c ≡ true) → one_if (a && (b && c)) ≡ one_if (a && b)
    by_cases true true c e h = ap one_if (h refl (eqb-true d cost e))
    by_cases true false c e h = refl
    by_cases false b c e h = refl

pub hits_spots : (y : System) (has : State → Bool) (cost : ℕ) (test : List ℕ → Bool) (d : ℕ) (s : State) (p : List ℕ)
    → Meeting y has cost test d s p → hits y has cost test d s p ≡ spots y cost test d p
hits_spots y has cost test d s [] m = counts (test []) (has s) d cost m
hits_spots y has cost test d s (op ∷ p) m =
    let here = counts (test (op ∷ p)) (has s) d cost m.0 in
    let t = m.1.0 in
    rw m.1.1 (omega (arith, here, hits_spots y has cost test (d + y.cost op) t p m.1.2))
