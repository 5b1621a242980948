-- Members of the first so many of a list, one more at a time, and lists that rise.
use Rattle.std.proofs.Common.{◌≡◌, ℕ, ◌+◌, ◌<◌, ◌≤◌, ◌⊎◌, ◌↔◌, inl, inr, List, [], ◌∷◌, ◌++◌, length, get_or, take, drop, append-nil, refl, sym, ◌∙◌, ap, subst, arith, IsTrue, true, false, Bool, Result, Ok, Err, IfOk, OnErr}
use Rattle.std.specs.List.{Contains}
use Rattle.std.specs.List.Sorted.{IsStrictlyIncreasing}
use Rattle.std.specs.Ordering.{nat_cmp}
use Rattle.std.specs.BTreeSet.{BTreeSet, contains}
use Rattle.std.proofs.lemmas.Grind.{common_steps}
use Rattle.std.proofs.lemmas.Cmp.{nat_cmp_total}
use Rattle.std.proofs.lemmas.List.{take_more, take_all, drop_all}
use Rattle.std.proofs.lemmas.List.Elements.{Contains-get_or, Contains-append_left, Contains-push, Contains-push_cases}
use Rattle.std.proofs.lemmas.Map.Keys.{sorted_from_strictly_increasing}
use Rattle.std.proofs.lemmas.Map.Lookups.{exact_unsigned, btree_set_from_contains}
use Rattle.std.proofs.lemmas.Map.Views.{btree_set_contains_iff}

pub if_ok_both : {A E : Type 0} (r : Result A E) {P Q R : A → Type 0} → ((a : A) → P a → Q a → R a) → IfOk r P → IfOk r Q → IfOk r R
if_ok_both (Ok a) f h k = f a h k
if_ok_both (Err e) f h k = h

pub on_err : {A E X : Type 0} (r : Result A E) → X → OnErr r X
on_err (Ok a) x = tt
on_err (Err e) x = x

-- the answer was Ok, or it was Err
pub of_ok : {A E : Type 0} (r : Result A E) (P : A → Type 0) (a : A) → r ≡ Ok a → IfOk r P → P a
of_ok r P a e h = subst (λ (z : Result _ _). IfOk z P) e h

pub of_err : {A E : Type 0} (r : Result A E) (X : Type 0) (f : E) → r ≡ Err f → OnErr r X → X
of_err r X f e h = subst (λ (z : Result _ _). OnErr z X) e h

pub told : (b : Bool) → (b ≡ true) ⊎ (b ≡ false)
told true = inl refl
told false = inr refl

-- the members of one more
pub more : {X : Type 0} (xs : List X) (i : ℕ) (x y : X) → i < length xs → get_or xs i x ≡ x → Contains (take (i + 1) xs) y ↔ (Contains (take i xs) y ⊎ (x ≡ y))
more xs i x y lt is =
    let e : take (i + 1) xs ≡ take i xs ++ x ∷ [] = take_more xs i x lt ∙ ap (λ (z : _). take i xs ++ z ∷ []) is in (
      (λ h. Contains-push_cases (take i xs) x y (subst (λ (z : List _). Contains z y) e h)),
      (λ h. subst (λ (z : List _). Contains z y) (sym e) (elim h [
        | inl k ↦ Contains-append_left (take i xs) (x ∷ []) y k
        | inr k ↦ subst (λ (z : _). Contains (take i xs ++ x ∷ []) z) k (Contains-push (take i xs) x)
      ])),
    )

pub pushed : {X : Type 0} (xs : List X) (x y : X) → Contains (xs ++ x ∷ []) y ↔ (Contains xs y ⊎ (x ≡ y))
pushed xs x y = (
  (λ h. Contains-push_cases xs x y h),
  (λ h. elim h [
    | inl k ↦ Contains-append_left xs (x ∷ []) y k
    | inr k ↦ subst (λ (z : _). Contains (xs ++ x ∷ []) z) k (Contains-push xs x)
  ]),
)

-- none are members of none, and all of all
pub none : {X : Type 0} (xs : List X) (y : X) → Contains (take 0 xs) y → ⊥
none xs y h = absurd (omega (arith, h.1))

pub whole : {X : Type 0} (xs : List X) (n : ℕ) (y : X) → length xs ≤ n → Contains (take n xs) y ↔ Contains xs y
whole xs n y le = (
  (λ h. subst (λ (z : List _). Contains z y) (take_all n xs le) h),
  (λ h. subst (λ (z : List _). Contains z y) (sym (take_all n xs le)) h),
)

-- a number that is above all others comes last
pub rising_push : (xs : List ℕ) (x : ℕ) → IsStrictlyIncreasing xs → ((y : ℕ) → Contains xs y → y < x) → IsStrictlyIncreasing (xs ++ x ∷ [])
rising_push xs x rising below k lt = grind (arith, common_steps, rising k, below (get_or xs k 0), Contains-get_or xs k 0)

abbrev set_of : List ℕ → BTreeSet ℕ
set_of xs = record { keys = xs }

-- rising lists of the same numbers are one
pub rising_same : (xs ys : List ℕ) → IsStrictlyIncreasing xs → IsStrictlyIncreasing ys → ((x : ℕ) → Contains xs x ↔ Contains ys x) → xs ≡ ys
rising_same xs ys rx ry same = btree_set_from_contains nat_cmp_total (set_of xs) (set_of ys)
    (sorted_from_strictly_increasing xs rx) (sorted_from_strictly_increasing ys ry)
    (λ q. equal (contains nat_cmp (set_of xs) q) (contains nat_cmp (set_of ys) q) (
      (λ h. (in_set ys q).1 ((same q).0 ((in_set xs q).0 h))),
      (λ h. (in_set xs q).1 ((same q).1 ((in_set ys q).0 h))),
    )) exact_unsigned
  where
    in_set : (zs : List ℕ) (q : ℕ) → IsTrue (contains nat_cmp (set_of zs) q) ↔ Contains zs q
    in_set zs q = btree_set_contains_iff nat_cmp_total exact_unsigned (set_of zs) q

    equal : (a b : Bool) → IsTrue a ↔ IsTrue b → a ≡ b
    equal true true h = refl
    equal false false h = refl
    equal true false h = (let e = h.0 refl in cc)
    equal false true h = (let e = h.1 refl in cc)

-- a number is in a list or it isn't
pub in_list : (xs : List ℕ) (x : ℕ) → Contains xs x ⊎ ¬ Contains xs x
in_list xs x = go (contains nat_cmp (set_of xs) x) (btree_set_contains_iff nat_cmp_total exact_unsigned (set_of xs) x)
  where
    go : (b : Bool) → IsTrue b ↔ Contains xs x → Contains xs x ⊎ ¬ Contains xs x
    go true h = inl (h.0 refl)
    go false h = inr (λ k. (let e = h.1 k in cc))

-- the numbers below x of which P holds, and x where P holds of it
module _ (xs : List ℕ) (x : ℕ) (P : ℕ → Type 0) (found : (g : ℕ) → Contains xs g ↔ ((g < x) × P g)) where
  pub found_more : P x → (g : ℕ) → Contains (xs ++ x ∷ []) g ↔ ((g < x + 1) × P g)
  found_more p g = (
    (λ h. elim (Contains-push_cases xs x g h) [
      | inl k ↦ (let f = (found g).0 k in let low = f.0 in (omega (arith, low), f.1))
      | inr
          e ↦ (omega (arith, e), subst P e p)
    ]),
    (λ h. elim (at_or_below g h.0) [
      | inl lt ↦ Contains-append_left xs (x ∷ []) g ((found g).1 (lt, h.1))
      | inr
          e ↦ subst (Contains (xs ++ x ∷ [])) (sym e) (Contains-push xs x)
    ]),
  )
    where
      at_or_below : (k : ℕ) → k < x + 1 → (k < x) ⊎ (k ≡ x)
      at_or_below k lt = grind arith

  pub found_same : ¬ P x → (g : ℕ) → Contains xs g ↔ ((g < x + 1) × P g)
  found_same n g = (
    (λ h. let f = (found g).0 h in let low = f.0 in (omega (arith, low), f.1)),
    (λ h. elim (at_or_below g h.0) [ inl lt ↦ (found g).1 (lt, h.1) | inr e ↦ absurd (n (subst P e h.1)) ]),
  )
    where
      at_or_below : (k : ℕ) → k < x + 1 → (k < x) ⊎ (k ≡ x)
      at_or_below k lt = grind arith

-- what is written back into a list of the same length
pub write_back : {X : Type 0} (xs ys : List X) (n : ℕ) → length ys ≡ n → length xs ≡ length ys → take n (xs ++ drop (length xs) ys) ≡ xs
write_back xs ys n e f = ap (λ (z : List _). take n (xs ++ z)) (drop_all (length xs) ys (omega (arith, f)))
    ∙ ap (take n) (append-nil xs) ∙ take_all n xs (omega (arith, e, f))

pub rising_none : (xs : List ℕ) → xs ≡ [] → IsStrictlyIncreasing xs
rising_none xs is k lt = absurd (omega (arith, lt, ap length is))

pub found_none : (xs : List ℕ) (P : ℕ → Type 0) → xs ≡ [] → (g : ℕ) → Contains xs g ↔ ((g < 0) × P g)
found_none xs P is g = ((λ h. absurd (omega (arith, h.1, ap length is))), (λ h. let low = h.0 in absurd (omega (arith, low))))
