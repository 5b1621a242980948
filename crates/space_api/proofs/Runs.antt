-- RunsInSystem of operators, one after the other.
use Rattle.std.proofs.Common.{◌≡◌, ℕ, ◌+◌, List, [], ◌∷◌, ◌++◌, refl, sym, subst, arith}
use Rattle.task_system.specs.System.{State, System, Leads, RunsInSystem, cost_in_system}

-- two runs make one
pub run_append : (y : System) (s : State) (p : List ℕ) (m : State) (q : List ℕ) (t : State) → RunsInSystem y s p m
    → RunsInSystem y m q t → RunsInSystem y s (p ++ q) t
run_append y s [] m q t e h = subst (λ (x : State). RunsInSystem y x q t) (sym e) h
run_append y s (op ∷ p) m q t (n, first, rest) h = (n, first, run_append y n p m q t rest h)

-- one run is two
pub run_split : (y : System) (s : State) (p q : List ℕ) (t : State) → RunsInSystem y s (p ++ q) t → (m : State) × RunsInSystem y s p m × RunsInSystem y m q t
run_split y s [] q t h = (s, refl, h)
run_split y s (op ∷ p) q t (n, first, rest) = (let r = run_split y n p q t rest in (r.0, (n, first, r.1), r.2))

-- one operator more at the end
pub run_more : (y : System) (s : State) (p : List ℕ) (m : State) (op : ℕ) (t : State) → RunsInSystem y s p m
    → Leads y op m t → RunsInSystem y s (p ++ op ∷ []) t
run_more y s p m op t run leads = run_append y s p m (op ∷ []) t run (t, leads, refl)

pub cost_append : (y : System) (p q : List ℕ) → cost_in_system y (p ++ q) ≡ cost_in_system y p + cost_in_system y q
cost_append y [] q = omega arith
cost_append y (op ∷ p) q = omega (arith, cost_append y p q)

pub cost_more : (y : System) (p : List ℕ) (op : ℕ) → cost_in_system y (p ++ op ∷ []) ≡ cost_in_system y p + y.cost op
cost_more y p op = omega (arith, cost_append y p (op ∷ []))
