-- The list of the touched places has exactly these.
use Rattle.std.proofs.Common.{◌≡◌, ℕ, zero, suc, ◌+◌, ◌<◌, ◌≤◌, ◌||◌, inl, inr, Bool, true, false, cond, List, [], ◌∷◌, ◌++◌, append-nil, add-one, refl, sym, ◌∙◌, ap, arith}
use Rattle.std.specs.List.{All, filter, range_with_len}
use Rattle.std.proofs.lemmas.Bool.{eq-eqb, ne_eqb, cases_eq}
use Rattle.bdd_ops.specs.Quantified.{is_in}

not_first : (f : ℕ → Bool) (xs : List ℕ) (a p : ℕ) (t : Bool) → p < a → is_in xs p ≡ false → is_in (cond t (a ∷ xs) xs) p ≡ false
not_first f xs a p true lt h = ap (λ (u : Bool). u || is_in xs p) (ne_eqb a p (λ e. omega (arith, e, lt))) ∙ h
not_first f xs a p false lt h = h

before_range : (f : ℕ → Bool) (n a p : ℕ) → p < a → is_in (filter f (range_with_len a n)) p ≡ false
before_range f zero a p lt = refl
before_range f (suc n) a p lt = not_first f (filter f (range_with_len (a + 1) n)) a p (f a) lt (before_range f n (a + 1) p (omega (arith, lt)))

later : (f : ℕ → Bool) (n a p : ℕ) → a ≤ p → (p < a + 1 → is_in (filter f (range_with_len (a + 1) n)) p ≡ false)
    → (a + 1 ≤ p → is_in (filter f (range_with_len (a + 1) n)) p ≡ f p)
    → is_in (filter f (range_with_len a (suc n))) p ≡ f p
later f n a p lo none ih = go (f a) refl
  where
    rest : List ℕ
    rest = filter f (range_with_len (a + 1) n)

    go : (t : Bool) → f a ≡ t → is_in (cond t (a ∷ filter f (range_with_len (a + 1) n)) (filter f (range_with_len (a + 1) n))) p ≡ f p
    go true e = elim (cases_eq a p) [
      | inl same ↦ ap (λ (u : Bool). u || is_in (filter f (range_with_len (a + 1) n)) p) (eq-eqb a p same) ∙ sym e ∙ ap f same
      | inr ne ↦ (let other : a ≡ p → ⊥ = ne in ap (λ (u : Bool). u || is_in (filter f (range_with_len (a + 1) n)) p)
          (ne_eqb a p ne) ∙ ih (omega (arith, lo, other)))
    ]
    go false e = elim (cases_eq a p) [
      | inl same ↦ none (omega (arith, same)) ∙ sym e ∙ ap f same
      | inr ne ↦ (let other : a ≡ p → ⊥ = ne in ih (omega (arith, lo, other)))
    ]

-- a number of the range is kept where it passes the test
pub in_filter : (f : ℕ → Bool) (n a p : ℕ) → a ≤ p → p < a + n → is_in (filter f (range_with_len a n)) p ≡ f p
in_filter f zero a p lo hi = absurd (omega (arith, lo, hi))
in_filter f (suc n) a p lo hi = later f n a p lo (before_range f n (a + 1) p) (λ low. in_filter f n (a + 1) p low (omega (arith, hi)))

below : (f : ℕ → Bool) (n a : ℕ) (t : Bool) → All (λ p. p < (a + 1) + n) (filter f (range_with_len (a + 1) n))
    → All (λ p. p < a + suc n) (cond t (a ∷ filter f (range_with_len (a + 1) n)) (filter f (range_with_len (a + 1) n)))
below f n a true ih zero d lt = omega arith
below f n a true ih (suc k) d lt = (let h = ih k d (omega (arith, lt)) in omega (arith, h))
below f n a false ih k d lt = (let h = ih k d lt in omega (arith, h))

-- and each that is kept is one of the range
pub filter_below : (f : ℕ → Bool) (n a : ℕ) → All (λ p. p < a + n) (filter f (range_with_len a n))
filter_below f zero a k d lt = absurd (omega (arith, lt))
filter_below f (suc n) a k d lt = below f n a (f a) (filter_below f n (a + 1)) k d lt

-- one number more
next_range : (f : ℕ → Bool) (n a j : ℕ) → a + n ≡ j → filter f (range_with_len a (suc n)) ≡ filter f (range_with_len a n) ++ cond (f j) (j ∷ []) []
next_range f zero a j e = ap (λ (x : ℕ). cond (f x) (x ∷ []) []) (let same : a ≡ j = omega (arith, e) in same)
next_range f (suc n) a j e = added (f a) (filter f (range_with_len (a + 1) (suc n)))
    (filter f (range_with_len (a + 1) n)) (next_range f n (a + 1) j (omega (arith, e)))
  where
    added : (t : Bool) (xs ys : List ℕ) → xs ≡ ys ++ cond (f j) (j ∷ []) [] → cond t (a ∷ xs) xs ≡ cond t (a ∷ ys) ys ++ cond (f j) (j ∷ []) []
    added true xs ys h = ap (λ (zs : List ℕ). a ∷ zs) h
    added false xs ys h = h

pub kept_next : (f : ℕ → Bool) (i : ℕ) (xs : List ℕ) → xs ≡ filter f (range_with_len 0 i) → f i ≡ true → xs ++ i ∷ [] ≡ filter f (range_with_len 0 (i + 1))
kept_next f i xs h t = ap (λ (ys : List ℕ). ys ++ i ∷ []) h ∙ sym
    (ap (λ (n : ℕ). filter f (range_with_len 0 n)) (add-one i) ∙ next_range f i 0 i (omega arith)
    ∙ ap (λ (v : Bool). filter f (range_with_len 0 i) ++ cond v (i ∷ []) []) t)

pub left_next : (f : ℕ → Bool) (i : ℕ) (xs : List ℕ) → xs ≡ filter f (range_with_len 0 i) → f i ≡ false → xs ≡ filter f (range_with_len 0 (i + 1))
left_next f i xs h t = h ∙ sym (ap (λ (n : ℕ). filter f (range_with_len 0 n)) (add-one i) ∙ next_range f i 0 i
    (omega arith) ∙ ap (λ (v : Bool). filter f (range_with_len 0 i) ++ cond v (i ∷ []) []) t
    ∙ append-nil (filter f (range_with_len 0 i)))
