-- Rearrangements: what they weigh, and a list of all of them.
use Rattle.std.proofs.Common.{◌≡◌, ℕ, ◌+◌, ◌<◌, ◌≤◌, Bool, true, false, eqb, cond, inl, inr, List, [], ◌∷◌, ◌++◌, length, refl, sym, ◌∙◌, ap, subst, arith, eq-eqb}
use Rattle.std.specs.List.{count_by}
use Rattle.std.proofs.lemmas.Bool.{cases_eq, ne_eqb}
use Rattle.std.proofs.lemmas.List.Sums.{sum_by-cons}
use Rattle.symk_task.specs.declared.parts.Mode.{Mode}
use Rattle.symk_task.specs.declared.parts.Mode.TheVariants.{TopK, Loopless, Unordered}
use Rattle.symk_task.specs.Plans.{Same}
use Rattle.task_system.specs.System.{System, Listed, cost_in_system}

-- how often a number stands in a list, by recursion
abbrev times : ℕ → List ℕ → ℕ
times x [] = 0
times x (y ∷ ys) = cond (eqb x y) 1 0 + times x ys

times_count : (x : ℕ) (p : List ℕ) → times x p ≡ count_by (λ y. eqb x y) p
times_count x [] = refl
times_count x (y ∷ p) = ap (λ (n : ℕ). cond (eqb x y) 1 0 + n) (times_count x p) ∙ sym (sum_by-cons (λ y. cond (eqb x y) 1 0) y p)

-- each number stands equally often in both
abbrev Even : List ℕ → List ℕ → Type 0
Even p q = (x : ℕ) → times x p ≡ times x q

even_same : (mode : Mode) (p q : List ℕ) → Same mode p q → Even p q
even_same TopK p q h x = ap (times x) h
even_same Loopless p q h x = ap (times x) h
even_same Unordered p q h x = times_count x p ∙ h x ∙ sym (times_count x q)

here : (x : ℕ) (p : List ℕ) → times x (x ∷ p) ≡ 1 + times x p
here x p = rw (eq-eqb x x refl) refl

times_between : (x y : ℕ) (a b : List ℕ) → times x (a ++ y ∷ b) ≡ cond (eqb x y) 1 0 + times x (a ++ b)
times_between x y [] b = refl
times_between x y (z ∷ a) b = omega (arith, times_between x y a b)

-- where x stands
splits_at : (x : ℕ) (p : List ℕ) → 0 < times x p → (a : List ℕ) × (b : List ℕ) × (p ≡ a ++ x ∷ b)
splits_at x [] some = absurd (omega arith)
splits_at x (y ∷ p) some = elim (cases_eq x y) [
  | inl is ↦ ([], p, ap (λ (z : ℕ). z ∷ p) (sym is))
  | inr off ↦ let s = splits_at x p (let t = rw (ne_eqb x y off) at some in omega (arith, t)) in
      (y ∷ s.0, s.1, ap (λ (z : List ℕ). y ∷ z) s.2)
]

-- x stands in p, and the rest of p has the numbers of q
even_split : (x : ℕ) (p q : List ℕ) → Even p (x ∷ q) → (a : List ℕ) × (b : List ℕ) × (p ≡ a ++ x ∷ b) × Even (a ++ b) q
even_split x p q h =
    let s = splits_at x p (omega (arith, h x, here x q)) in
    (s.0, s.1, s.2, λ z. omega (arith, h z, ap (times z) s.2, times_between z x s.0 s.1))

none_even : (x : ℕ) (p : List ℕ) → Even (x ∷ p) [] → ⊥
none_even x p h = omega (arith, h x, here x p)

-- What they weigh.

abbrev weight : (ℕ → ℕ) → List ℕ → ℕ
weight f [] = 0
weight f (a ∷ p) = f a + weight f p

weight_between : (f : ℕ → ℕ) (x : ℕ) (a b : List ℕ) → weight f (a ++ x ∷ b) ≡ f x + weight f (a ++ b)
weight_between f x [] b = refl
weight_between f x (z ∷ a) b = omega (arith, weight_between f x a b)

weight_even : (f : ℕ → ℕ) (q p : List ℕ) → Even p q → weight f p ≡ weight f q
weight_even f [] [] h = refl
weight_even f [] (x ∷ p) h = absurd (none_even x p h)
weight_even f (x ∷ q) p h =
    let s = even_split x p q h in
    omega (arith, ap (weight f) s.2, weight_between f x s.0 s.1, weight_even f q (s.0 ++ s.1) s.3)

weight_cost : (system : System) (p : List ℕ) → cost_in_system system p ≡ weight system.cost p
weight_cost system [] = refl
weight_cost system (a ∷ p) = ap (λ (n : ℕ). system.cost a + n) (weight_cost system p)

weight_length : (p : List ℕ) → length p ≡ weight (λ x. 1) p
weight_length [] = refl
weight_length (a ∷ p) = omega (arith, weight_length p)

pub same_cost : (system : System) (mode : Mode) (p q : List ℕ) → Same mode p q → cost_in_system system p ≡ cost_in_system system q
same_cost system mode p q h = weight_cost system p ∙ weight_even system.cost q p (even_same mode p q h) ∙ sym (weight_cost system q)

pub same_length : (mode : Mode) (p q : List ℕ) → Same mode p q → length p ≡ length q
same_length mode p q h = weight_length p ∙ weight_even (λ x. 1) q p (even_same mode p q h) ∙ sym (weight_length q)

-- All of them.

abbrev each_after : ℕ → List (List ℕ) → List (List ℕ)
each_after y [] = []
each_after y (p ∷ ps) = (y ∷ p) ∷ each_after y ps

-- x put at each place
abbrev puts : ℕ → List ℕ → List (List ℕ)
puts x [] = (x ∷ []) ∷ []
puts x (y ∷ p) = (x ∷ (y ∷ p)) ∷ each_after y (puts x p)

abbrev puts_all : ℕ → List (List ℕ) → List (List ℕ)
puts_all x [] = []
puts_all x (p ∷ ps) = puts x p ++ puts_all x ps

-- the rearrangements of a list
abbrev orders : List ℕ → List (List ℕ)
orders [] = [] ∷ []
orders (x ∷ p) = puts_all x (orders p)

-- the rearrangements of each list
abbrev pub orders_all : List (List ℕ) → List (List ℕ)
orders_all [] = []
orders_all (p ∷ ps) = orders p ++ orders_all ps

pub in_left : (xs ys : List (List ℕ)) (p : List ℕ) → Listed xs p → Listed (xs ++ ys) p
in_left [] ys p h = absurd h
in_left (x ∷ xs) ys p (inl e) = inl e
in_left (x ∷ xs) ys p (inr h) = inr (in_left xs ys p h)

pub in_right : (xs ys : List (List ℕ)) (p : List ℕ) → Listed ys p → Listed (xs ++ ys) p
in_right [] ys p h = h
in_right (x ∷ xs) ys p h = inr (in_right xs ys p h)

after_in : (y : ℕ) (ps : List (List ℕ)) (p : List ℕ) → Listed ps p → Listed (each_after y ps) (y ∷ p)
after_in y [] p h = absurd h
after_in y (x ∷ ps) p (inl e) = inl (ap (λ (z : List ℕ). y ∷ z) e)
after_in y (x ∷ ps) p (inr h) = inr (after_in y ps p h)

put_in : (x : ℕ) (a b : List ℕ) → Listed (puts x (a ++ b)) (a ++ x ∷ b)
put_in x [] [] = inl refl
put_in x [] (y ∷ b) = inl refl
put_in x (y ∷ a) b = inr (after_in y (puts x (a ++ b)) (a ++ x ∷ b) (put_in x a b))

put_all_in : (x : ℕ) (ps : List (List ℕ)) (p q : List ℕ) → Listed ps q → Listed (puts x q) p → Listed (puts_all x ps) p
put_all_in x [] p q h l = absurd h
put_all_in x (r ∷ ps) p q (inl e) l = in_left (puts x r) (puts_all x ps) p (subst (λ (z : List ℕ). Listed (puts x z) p) (sym e) l)
put_all_in x (r ∷ ps) p q (inr h) l = in_right (puts x r) (puts_all x ps) p (put_all_in x ps p q h l)

order_even : (q p : List ℕ) → Even p q → Listed (orders q) p
order_even [] [] h = inl refl
order_even [] (x ∷ p) h = absurd (none_even x p h)
order_even (x ∷ q) p h =
    let s = even_split x p q h in
    let l = put_all_in x (orders q) (s.0 ++ x ∷ s.1) (s.0 ++ s.1) (order_even q (s.0 ++ s.1) s.3) (put_in x s.0 s.1) in
    subst (λ (z : List ℕ). Listed (puts_all x (orders q)) z) (sym s.2) l

-- what counts as one with a list is among its rearrangements
pub order_in : (mode : Mode) (p q : List ℕ) → Same mode p q → Listed (orders q) p
order_in mode p q h = order_even q p (even_same mode p q h)

-- A count of members falls.

count_cons : (f : List ℕ → Bool) (x : List ℕ) (xs : List (List ℕ)) → count_by f (x ∷ xs) ≡ cond (f x) 1 0 + count_by f xs
count_cons f x xs = sum_by-cons (λ y. cond (f y) 1 0) x xs

cond_le : (a b : Bool) → (b ≡ true → a ≡ true) → cond b 1 0 ≤ cond a 1 0
cond_le a true h = rw (h refl) (omega arith)
cond_le true false h = omega arith
cond_le false false h = omega arith

cond_lt : (a b : Bool) → a ≡ true → b ≡ false → cond b 1 0 + 1 ≤ cond a 1 0
cond_lt a b e f = rw (e, f) (omega arith)

count_le : (f g : List ℕ → Bool) (xs : List (List ℕ)) → ((x : List ℕ) → g x ≡ true → f x ≡ true) → count_by g xs ≤ count_by f xs
count_le f g [] h = omega arith
count_le f g (x ∷ xs) h = omega (arith, cond_le (f x) (g x) (h x), count_le f g xs h, count_cons f x xs, count_cons g x xs)

-- a test that fewer pass, one of the list among them, counts fewer of it
pub count_falls : (f g : List ℕ → Bool) (xs : List (List ℕ)) (p : List ℕ) → ((x : List ℕ) → g x ≡ true → f x ≡ true)
    → Listed xs p → f p ≡ true → g p ≡ false → count_by g xs < count_by f xs
count_falls f g [] p h i had off = absurd i
count_falls f g (x ∷ xs) p h (inl e) had off =
    let a : f x ≡ true = ap f e ∙ had in
    let b : g x ≡ false = ap g e ∙ off in
    omega (arith, cond_lt (f x) (g x) a b, count_le f g xs h, count_cons f x xs, count_cons g x xs)
count_falls f g (x ∷ xs) p h (inr i) had off =
    omega (arith, cond_le (f x) (g x) (h x), count_falls f g xs p h i had off, count_cons f x xs, count_cons g x xs)
