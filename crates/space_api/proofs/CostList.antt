-- The different costs, rising, are one list.
use Rattle.std.proofs.Common.{◌≡◌, ℕ, zero, suc, ◌<◌, ◌≤◌, ◌⊎◌, ◌↔◌, inl, inr, List, [], ◌∷◌, length, get_or, refl, sym, ◌∙◌, ap, subst, arith, add-one}
use Rattle.std.proofs.lemmas.Bool.Decides.{nat_tests}
use Rattle.std.specs.List.Sorted.{IsStrictlyIncreasing}
use Rattle.task_system.specs.System.{System}
use Rattle.space_api.specs.Costs.{AreCosts, with_cost, costs_below, costs_of, CostsAreListed}

-- c stands in the list
abbrev pub In : List ℕ → ℕ → Type 0
In [] c = ⊥
In (x ∷ xs) c = (x ≡ c) ⊎ In xs c

-- c is below the first number
abbrev Below : ℕ → List ℕ → Type 0
Below c [] = Unit {0}
Below c (x ∷ xs) = c < x

abbrev pub Rises : List ℕ → Type 0
Rises [] = Unit {0}
Rises (x ∷ xs) = Below x xs × Rises xs

-- the number in its place
in_with : (c : ℕ) (xs : List ℕ) (d : ℕ) → In (with_cost c xs) d ↔ ((c ≡ d) ⊎ In xs d)
in_with c [] d = ((λ h. h), (λ h. h))
in_with c (x ∷ xs) d = grind (arith, nat_tests, in_with c xs d)

below_with : (b c : ℕ) (xs : List ℕ) → b < c → Below b xs → Below b (with_cost c xs)
below_with b c [] lt h = lt
below_with b c (x ∷ xs) lt h = grind (arith, nat_tests)

rises_with : (c : ℕ) (xs : List ℕ) → Rises xs → Rises (with_cost c xs)
rises_with c [] h = (tt, tt)
rises_with c (x ∷ xs) h = grind (arith, nat_tests, rises_with c xs h.1, below_with x c xs)

rises_below : (cost : ℕ → ℕ) (n : ℕ) → Rises (costs_below cost n)
unfolding costs_below
rises_below cost zero = tt
rises_below cost (suc n) = rises_with (cost n) (costs_below cost n) (rises_below cost n)

below_or_at : (op n : ℕ) → op < suc n → (op < n) ⊎ (op ≡ n)
below_or_at op n h = grind arith

in_below : (cost : ℕ → ℕ) (n op : ℕ) → op < n → In (costs_below cost n) (cost op)
unfolding costs_below
in_below cost zero op lt = absurd (omega arith)
in_below cost (suc n) op lt = (in_with (cost n) (costs_below cost n) (cost op)).1
    (elim (below_or_at op n lt) [ inl h ↦ inr (in_below cost n op h) | inr e ↦ inl (sym (ap cost e)) ])

of_below : (cost : ℕ → ℕ) (n c : ℕ) → In (costs_below cost n) c → (op : ℕ) × (op < n) × (cost op ≡ c)
unfolding costs_below
of_below cost zero c h = absurd h
of_below cost (suc n) c h = elim ((in_with (cost n) (costs_below cost n) c).0 h) [
  | inl e ↦ (n, omega arith, e)
  | inr k ↦ (let r = of_below cost n c k in (r.0, omega (arith, r.1), r.2))
]

-- by place
pub in_at : (xs : List ℕ) (i : ℕ) → i < length xs → In xs (get_or xs i 0)
in_at [] i lt = absurd (omega arith)
in_at (x ∷ xs) zero lt = inl refl
in_at (x ∷ xs) (suc i) lt = inr (in_at xs i (omega arith))

pub at_in : (xs : List ℕ) (c : ℕ) → In xs c → (i : ℕ) × (i < length xs) × (get_or xs i 0 ≡ c)
at_in [] c h = absurd h
at_in (x ∷ xs) c (inl e) = (0, omega arith, e)
at_in (x ∷ xs) c (inr h) = (let r = at_in xs c h in (suc r.0, omega (arith, r.1), r.2))

increasing : (xs : List ℕ) → Rises xs → IsStrictlyIncreasing xs
increasing [] h k lt = absurd (omega arith)
increasing (x ∷ []) h k lt = absurd (omega arith)
increasing (x ∷ y ∷ xs) h zero lt = h.0
increasing (x ∷ y ∷ xs) h (suc k) lt = simp add-one (simp add-one at (increasing (y ∷ xs) h.1 k (omega arith)))

rises : (xs : List ℕ) → IsStrictlyIncreasing xs → Rises xs
rises [] h = tt
rises (x ∷ []) h = (tt, tt)
rises (x ∷ y ∷ xs) h = (h 0 (omega arith), rises (y ∷ xs) (λ k lt. simp add-one (simp add-one at (h (suc k) (omega arith)))))

-- rising numbers are all above one that is below the first
above : (b : ℕ) (xs : List ℕ) (c : ℕ) → Below b xs → Rises xs → In xs c → b < c
above b [] c lt h i = absurd i
above b (x ∷ xs) c lt h (inl e) = omega arith
above b (x ∷ xs) c lt h (inr i) = omega (arith, above x xs c h.0 h.1 i)

least : (x : ℕ) (xs : List ℕ) (c : ℕ) → Rises (x ∷ xs) → In (x ∷ xs) c → x ≤ c
least x xs c h (inl e) = omega arith
least x xs c h (inr i) = omega (arith, above x xs c h.0 h.1 i)

tail_in : (x : ℕ) (xs ys : List ℕ) (y c : ℕ) → x ≡ y → Rises (x ∷ xs) → In xs c → In (y ∷ ys) c → In ys c
tail_in x xs ys y c e h i (inl f) = absurd (omega (arith, above x xs c h.0 h.1 i))
tail_in x xs ys y c e h i (inr k) = k

same_rising : (xs ys : List ℕ) → Rises xs → Rises ys → ((c : ℕ) → In xs c → In ys c) → ((c : ℕ) → In ys c → In xs c) → xs ≡ ys
same_rising [] [] h k f g = refl
same_rising [] (y ∷ ys) h k f g = absurd (g y (inl refl))
same_rising (x ∷ xs) [] h k f g = absurd (f x (inl refl))
same_rising (x ∷ xs) (y ∷ ys) h k f g =
    let e : x ≡ y = omega (arith, least x xs y h (g y (inl refl)), least y ys x k (f x (inl refl))) in
    let rest : xs ≡ ys = same_rising xs ys h.1 k.1 (λ c i. tail_in x xs ys y c e h i (f c (inr i))) (λ c i. tail_in y ys xs x c (sym e) k i (g c (inr i))) in
    λ i. e i ∷ rest i

in_of : (y : System) (costs : List ℕ) (c : ℕ) → AreCosts y costs → In costs c → (op : ℕ) × (op < y.operators) × (y.cost op ≡ c)
in_of y costs c a h = (
    let at = at_in costs c h in
    let op = a.only at.0 at.1 in
    (op.0, op.1, op.2 ∙ at.2))

of_in : (y : System) (costs : List ℕ) (op : ℕ) → AreCosts y costs → op < y.operators → In costs (y.cost op)
of_in y costs op a lt = (let i = a.all op lt in subst (In costs) i.2 (in_at costs i.0 i.1))

pub are_costs : (y : System) → AreCosts y (costs_of y)
are_costs y = record {
  rising = increasing (costs_of y) (rises_below y.cost y.operators);
  all = λ op lt. at_in (costs_of y) (y.cost op) (in_below y.cost y.operators op lt);
  only = λ i lt. of_below y.cost y.operators (get_or (costs_of y) i 0) (in_at (costs_of y) i lt);
}

-- every list of the costs is contained in every other
part_of : (y : System) (xs ys : List ℕ) (c : ℕ) → AreCosts y xs → AreCosts y ys → In xs c → In ys c
part_of y xs ys c a b h = (let op = in_of y xs c a h in subst (In ys) op.2 (of_in y ys op.0 b op.1))

pub one_list : (y : System) (xs ys : List ℕ) → AreCosts y xs → AreCosts y ys → xs ≡ ys
one_list y xs ys a b = same_rising xs ys (rises xs a.rising) (rises ys b.rising) (λ c. part_of y xs ys c a b) (λ c. part_of y ys xs c b a)

pub costs_are_listed : CostsAreListed
costs_are_listed y = (are_costs y, (λ costs a. one_list y costs (costs_of y) a (are_costs y)))
