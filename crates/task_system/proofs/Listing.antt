-- Which states stand in a list, and that each stands there once.
use Rattle.std.proofs.Common.{◌≡◌, ◌≢◌, ℕ, zero, suc, ◌+◌, ◌<◌, ◌≤◌, ◌⊎◌, inl, inr, List, [], ◌∷◌, ◌++◌, map, refl, sym, ap, subst, ◌∙◌, arith}
use Rattle.std.specs.List.{All, range_with_len, flat_map}
use Rattle.std.proofs.lemmas.Bool.{cases_eq}
use Rattle.std.proofs.lemmas.List.Elements.{All-nil, All-cons, All-head, All-tail, All-append}
use Rattle.symk_task.specs.Plans.{AllDifferent}
use Rattle.task_system.specs.System.{State, Listed}

pub listed_left : (xs ys : List State) (s : State) → Listed xs s → Listed (xs ++ ys) s
listed_left [] ys s h = absurd h
listed_left (x ∷ xs) ys s (inl e) = inl e
listed_left (x ∷ xs) ys s (inr h) = inr (listed_left xs ys s h)

pub listed_right : (xs ys : List State) (s : State) → Listed ys s → Listed (xs ++ ys) s
listed_right [] ys s h = h
listed_right (x ∷ xs) ys s h = inr (listed_right xs ys s h)

pub listed_cases : (xs ys : List State) (s : State) → Listed (xs ++ ys) s → Listed xs s ⊎ Listed ys s
listed_cases [] ys s h = inr h
listed_cases (x ∷ xs) ys s (inl e) = inl (inl e)
listed_cases (x ∷ xs) ys s (inr h) = elim (listed_cases xs ys s h) [ inl a ↦ inl (inr a) | inr b ↦ inr b ]

-- a value before each state of the list
abbrev pub before : ℕ → List State → List State
before x xs = map (λ (s : State). x ∷ s) xs

listed_before : (x : ℕ) (xs : List State) (s : State) → Listed xs s → Listed (before x xs) (x ∷ s)
listed_before x [] s h = absurd h
listed_before x (y ∷ xs) s (inl e) = inl (ap (λ (z : State). x ∷ z) e)
listed_before x (y ∷ xs) s (inr h) = inr (listed_before x xs s h)

-- a state of the list with a value before it, from one number up to another
pub record Begun (low high : ℕ) (xs : List State) (s : State) : Type 0 where
  pub x : ℕ
  pub rest : State
  pub is : s ≡ x ∷ rest
  pub least : low ≤ x
  pub most : x < high
  pub listed : Listed xs rest

before_listed : (x : ℕ) (xs : List State) (s : State) → Listed (before x xs) s → Begun x (x + 1) xs s
before_listed x [] s h = absurd h
before_listed x (y ∷ xs) s (inl e) = record { x = x; rest = y; is = sym e; least = omega arith; most = omega arith; listed = inl refl }
before_listed x (y ∷ xs) s (inr h) = (let b = before_listed x xs s h in record
    { x = b.x; rest = b.rest; is = b.is; least = b.least; most = b.most; listed = inr b.listed })

-- so many values, from the first number up, before each state of the list
abbrev pub all_before : ℕ → ℕ → List State → List State
all_before low n xs = flat_map (λ (x : ℕ). map (λ (s : State). x ∷ s) xs) (range_with_len low n)

pub listed_all : (n low x : ℕ) (xs : List State) (s : State) → low ≤ x → x < low + n → Listed xs s → Listed (all_before low n xs) (x ∷ s)
listed_all zero low x xs s le lt h = absurd (omega arith)
listed_all (suc n) low x xs s le lt h = elim (cases_eq x low) [
  | inl e ↦ listed_left (before low xs) _ (x ∷ s) (rw e (listed_before low xs s h))
  | inr ne ↦ listed_right (before low xs) _ (x ∷ s) (let off : x ≡ low → ⊥ = ne in listed_all n (low + 1) x xs s (omega (arith, off)) (omega arith) h)
]

pub all_listed : (n low : ℕ) (xs : List State) (s : State) → Listed (all_before low n xs) s → Begun low (low + n) xs s
all_listed zero low xs s h = absurd h
all_listed (suc n) low xs s h = elim (listed_cases (before low xs) _ s h) [
  | inl k ↦ (let b = before_listed low xs s k in record { x = b.x; rest = b.rest; is = b.is; least = b.least; most = omega (arith, b.most); listed = b.listed })
  | inr k ↦ (let b = all_listed n (low + 1) xs s k in record {
    x = b.x;
    rest = b.rest;
    is = b.is;
    least = omega (arith, b.least);
    most =
        omega (arith, b.most);
    listed = b.listed;
  })
]

-- Each once.

pub unlisted : (x : State) (xs : List State) → All (λ y. x ≢ y) xs → ¬ Listed xs x
unlisted x [] h l = l
unlisted x (y ∷ xs) h (inl e) = All-head (λ y. x ≢ y) y xs h (sym e)
unlisted x (y ∷ xs) h (inr l) = unlisted x xs (All-tail (λ y. x ≢ y) y xs h) l

pub apart : (x : State) (xs : List State) → ¬ Listed xs x → All (λ y. x ≢ y) xs
apart x [] h = All-nil (λ y. x ≢ y)
apart x (y ∷ xs) h = All-cons (λ y. x ≢ y) y xs (λ e. h (inl (sym e))) (apart x xs (λ l. h (inr l)))

-- two lists that share no member
append_different : (xs ys : List State) → AllDifferent xs → AllDifferent ys → ((s : State) → Listed xs s → ¬ Listed ys s) → AllDifferent (xs ++ ys)
append_different [] ys h k no_share = k
append_different (x ∷ xs) ys h k no_share = (
  All-append (λ y. x ≢ y) xs ys h.0 (apart x ys (no_share x (inl refl))),
  append_different xs ys h.1 k (λ s l. no_share s (inr l)),
)

same_rest : (x y : ℕ) (s t : State) → x ∷ s ≡ y ∷ t → s ≡ t
same_rest x y s t e = cc

before_different : (x : ℕ) (xs : List State) → AllDifferent xs → AllDifferent (before x xs)
before_different x [] h = tt
before_different x (s ∷ xs) h = (
  apart (x ∷ s) (before x xs) (λ l. let b = before_listed x xs (x ∷ s) l in unlisted s xs h.0
      (subst (Listed xs) (sym (same_rest x b.x s b.rest b.is)) b.listed)),
  before_different x xs h.1,
)

same_first : (x y : ℕ) (s t : State) → x ∷ s ≡ y ∷ t → x ≡ y
same_first x y s t e = cc

pub all_different : (n low : ℕ) (xs : List State) → AllDifferent xs → AllDifferent (all_before low n xs)
all_different zero low xs h = tt
all_different (suc n) low xs h = append_different (before low xs) (all_before (low + 1) n xs)
    (before_different low xs h) (all_different n (low + 1) xs h) no_share
  where
    no_share : (s : State) → Listed (before low xs) s → ¬ Listed (all_before (low + 1) n xs) s
    no_share s k l =
        let a = before_listed low xs s k in
        let b = all_listed n (low + 1) xs s l in
        let e : a.x ≡ b.x = same_first a.x b.x a.rest b.rest (sym a.is ∙ b.is) in
        omega (arith, e, a.most, b.least)
