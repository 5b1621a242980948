-- Lists of operators that grow.
use Rattle.std.proofs.Common.{◌≡◌, ◌≢◌, ℕ, zero, suc, ◌<◌, ◌⊎◌, inl, inr, List, [], ◌∷◌, ◌++◌, length, refl, sym, ap, subst, ◌∙◌, arith, Vec, Global}
use Rattle.std.specs.List.{Contains}
use Rattle.std.proofs.Math.ListN.{set}
use Rattle.std.proofs.lemmas.Bool.{cases_eq}
use Rattle.std.proofs.lemmas.List.Elements.{Contains-push, Contains-push_cases, Contains-append_left}
use Rattle.stubborn_sets.specs.Kept.{list_in, AddsOne}

pub none_in : (x : ℕ) → ¬ Contains {X = ℕ} [] x
none_in x h = (let lt : h.0 < 0 = h.1 in absurd (omega (arith, lt)))

-- an empty list more, at the end
pub one_more : (xs : List (Vec ℕ Global)) (v : Vec ℕ Global) → v.items ≡ [] → (i : ℕ) → list_in (xs ++ v ∷ []) i ≡ list_in xs i
one_more [] v e zero = e
one_more [] v e (suc i) = refl
one_more (x ∷ xs) v e zero = refl
one_more (x ∷ xs) v e (suc i) = one_more xs v e i

-- a list more, at the end
pub last_list : (xs : List (Vec ℕ Global)) (v : Vec ℕ Global) → list_in (xs ++ v ∷ []) (length xs) ≡ v.items
last_list [] v = refl
last_list (x ∷ xs) v = last_list xs v

pub other_lists : (xs : List (Vec ℕ Global)) (v : Vec ℕ Global) (i : ℕ) → i < length xs → list_in (xs ++ v ∷ []) i ≡ list_in xs i
other_lists [] v i lt = absurd (omega (arith, lt))
other_lists (x ∷ xs) v zero lt = refl
other_lists (x ∷ xs) v (suc i) lt = other_lists xs v i (omega (arith, lt))

-- one of them is another
set_same : (xs : List (Vec ℕ Global)) (n : ℕ) (v : Vec ℕ Global) → n < length xs → list_in (set xs n v) n ≡ v.items
set_same [] n v lt = absurd (omega (arith, lt))
set_same (x ∷ xs) zero v lt = refl
set_same (x ∷ xs) (suc n) v lt = set_same xs n v (omega (arith, lt))

set_other : (xs : List (Vec ℕ Global)) (n i : ℕ) (v : Vec ℕ Global) → i ≢ n → list_in (set xs n v) i ≡ list_in xs i
set_other [] n i v off = refl
set_other (x ∷ xs) zero zero v off = absurd (off refl)
set_other (x ∷ xs) zero (suc i) v off = refl
set_other (x ∷ xs) (suc n) zero v off = refl
set_other (x ∷ xs) (suc n) (suc i) v off = set_other xs n i v (λ same. off (ap suc same))

-- the operator was put into one
pub put_has : (xs : List (Vec ℕ Global)) (n : ℕ) (v : Vec ℕ Global) (op : ℕ) → n < length xs
    → v.items ≡ list_in xs n ++ op ∷ [] → Contains (list_in (set xs n v) n) op
put_has xs n v op lt e = subst (λ (z : List ℕ). Contains z op) (sym (set_same xs n v lt ∙ e)) (Contains-push (list_in xs n) op)

pub put_adds : (xs : List (Vec ℕ Global)) (n : ℕ) (v : Vec ℕ Global) (op : ℕ) → n < length xs
    → v.items ≡ list_in xs n ++ op ∷ [] → AddsOne (list_in xs) (list_in (set xs n v)) op
put_adds xs n v op lt e = record { keeps = keeps; adds = adds }
  where
    here : list_in (set xs n v) n ≡ list_in xs n ++ op ∷ []
    here = set_same xs n v lt ∙ e

    keeps : (i a : ℕ) → Contains (list_in xs i) a → Contains (list_in (set xs n v) i) a
    keeps i a h = elim (cases_eq i n) [
      | inl same ↦ subst (λ (k : ℕ). Contains (list_in (set xs n v) k) a) (sym same)
          (subst (λ (z : List ℕ). Contains z a) (sym here)
          (Contains-append_left (list_in xs n) (op ∷ []) a (subst (λ (k : ℕ). Contains (list_in xs k) a) same h)))
      | inr off ↦ subst (λ (z : List ℕ). Contains z a) (sym (set_other xs n i v off)) h
    ]

    adds : (i a : ℕ) → Contains (list_in (set xs n v) i) a → Contains (list_in xs i) a ⊎ (a ≡ op)
    adds i a h = elim (cases_eq i n) [
      | inl same ↦ elim (Contains-push_cases (list_in xs n) op a
          (subst (λ (z : List ℕ). Contains z a) here (subst (λ (k : ℕ). Contains (list_in (set xs n v) k) a) same
          h))) [
            | inl old ↦ inl (subst (λ (k : ℕ). Contains (list_in xs k) a) (sym same) old)
            | inr is ↦ inr (sym is)
          ]
      | inr off ↦ inl (subst (λ (z : List ℕ). Contains z a) (set_other xs n i v off) h)
    ]

-- nothing was added, and one thing after another
pub adds_refl : (lists : ℕ → List ℕ) (op : ℕ) → AddsOne lists lists op
adds_refl lists op = record { keeps = λ i a h. h; adds = λ i a h. inl h }

pub adds_trans : (a b c : ℕ → List ℕ) (op : ℕ) → AddsOne a b op → AddsOne b c op → AddsOne a c op
adds_trans a b c op to on = record {
  keeps = λ i x h. on.keeps i x (to.keeps i x h);
  adds = λ i x h. elim (on.adds i x h) [ inl old ↦ to.adds i x old | inr is ↦ inr is ];
}

-- the same by lists that are the same at each number
pub adds_from : (a b c : ℕ → List ℕ) (op : ℕ) → ((i : ℕ) → b i ≡ a i) → AddsOne b c op → AddsOne a c op
adds_from a b c op same on = record {
  keeps = λ i x h. on.keeps i x (subst (λ (z : List ℕ). Contains z x) (sym (same i)) h);
  adds = λ i x h. elim (on.adds i x h) [ inl old ↦ inl (subst (λ (z : List ℕ). Contains z x) (same i) old) | inr is ↦ inr is ];
}
