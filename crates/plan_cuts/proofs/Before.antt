-- A plan that extends an entry whose prefix grows begins there or extends exactly one of its children.
use Rattle.std.proofs.Common.{◌≡◌, ℕ, ◌+◌, ◌<◌, Bool, ◌&&◌, eqb, List, [], ◌∷◌, Option, Some, None, refl, sym, ◌∙◌, ap, arith}
use Rattle.task_system.specs.System.{State, System}
use Rattle.plan_cuts.specs.Counts.{one_if, on_some, at_some, next, hits, sum_over_operators}
use Rattle.plan_cuts.proofs.Sums.{sum_add, sum_zero, sum_one, differ, alike, no_ind}

module _ (y : System) (has : State → Bool) (cost : ℕ) (test : List ℕ → Bool) (back : ℕ → State → Bool) (rest : ℕ → ℕ) where
  -- the children at s, reached at cost d, are those that lead into the set at the entry's cost
  abbrev pub Backs : ℕ → State → Type 0
  Backs d s = (op : ℕ) → op < y.operators → (eqb d (rest op) && back op s) ≡ (eqb (d + y.cost op) cost && at_some (y.step op s) has)

  abbrev pub Along : ℕ → State → List ℕ → Type 0
  Along d s [] = Backs d s
  Along d s (op ∷ p) = Backs d s × (op < y.operators) × ((t : State) → y.step op s ≡ Some t → Along (d + y.cost op) t p)

  abbrev here : ℕ → List ℕ → ℕ → State → ℕ → ℕ
  here op p d s k = one_if ((eqb op k && test p) && (eqb d (rest k) && back k s))

  picked : (op : ℕ) (p : List ℕ) (d : ℕ) (s : State) → op < y.operators → Backs d s
      → sum_over_operators y.operators (here op p d s) ≡ one_if
      (test p && (eqb (d + y.cost op) cost && at_some (y.step op s) has))
  picked op p d s b back_ok =
      sum_one y.operators op (here op p d s) b (λ k c off. ap
      (λ (q : Bool). one_if ((q && test p) && (eqb d (rest k) && back k s))) (differ op k (λ e. off (sym e))))
      ∙ ap (λ (q : Bool). one_if ((q && test p) && (eqb d (rest op) && back op s))) (alike op)
      ∙ ap (λ (q : Bool). one_if (test p && q)) (back_ok op b)

  more : (op : ℕ) (p : List ℕ) (d : ℕ) (s : State) (o : Option State) → y.step op s ≡ o → op < y.operators → Backs d s
      → ((t : State) → o ≡ Some t → hits y has cost test (d + y.cost op) t p ≡ one_if
      (test p && (eqb (d + y.cost op) cost && has t)) + sum_over_operators y.operators
      (λ k. hits y (back k) (rest k) (next k test) (d + y.cost op) t p))
      → on_some o (λ t. hits y has cost test (d + y.cost op) t p) ≡ sum_over_operators y.operators
      (λ k. here op p d s k + on_some o (λ t. hits y (back k) (rest k) (next k test) (d + y.cost op) t p))
  more op p d s None e b back_ok ih =
      let one = picked op p d s b back_ok in
      let none : one_if (test p && (eqb (d + y.cost op) cost && at_some (y.step op s) has)) ≡ 0 = rw e (no_ind (test p) (eqb (d + y.cost op) cost)) in
      omega (arith, sum_add y.operators (here op p d s) (λ k. 0), sum_zero y.operators (λ k. 0) (λ k c. refl), one, none)
  more op p d s (Some t) e b back_ok ih =
      let one = picked op p d s b back_ok in
      let some : one_if (test p && (eqb (d + y.cost op) cost && at_some (y.step op s) has)) ≡ one_if
      (test p && (eqb (d + y.cost op) cost && has t)) = rw e refl in
      omega (arith, sum_add y.operators (here op p d s) (λ k. hits y (back k) (rest k) (next k test) (d + y.cost op) t p), one, some, ih t refl)

  pub splits : (p : List ℕ) (d : ℕ) (s : State) → Along d s p
      → hits y has cost test d s p ≡ one_if (test p && (eqb d cost && has s)) + sum_over_operators y.operators
      (λ op. hits y (back op) (rest op) (next op test) d s p)
  splits [] d s a = omega (arith, sum_zero y.operators (λ k. hits y (back k) (rest k) (next k test) d s []) (λ k b. refl))
  splits (op ∷ p) d s a =
      let m = more op p d s (y.step op s) refl a.1 a.0 (λ t e. splits p (d + y.cost op) t (a.2 t e)) in
      ap (λ (n : ℕ). one_if (test (op ∷ p) && (eqb d cost && has s)) + n) m
