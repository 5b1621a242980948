-- How often a plan extends an entry.
use Rattle.std.specs.Prelude.{ℕ, zero, suc, ◌+◌, Bool, false, ◌&&◌, eqb, cond, List, [], ◌∷◌, Option, Some, None}
use Rattle.task_system.specs.System.{State, System, cost_in_system}

abbrev pub one_if : Bool → ℕ
one_if b = cond b 1 0

abbrev pub on_some : Option State → (State → ℕ) → ℕ
on_some None f = 0
on_some (Some t) f = f t

abbrev pub at_some : Option State → (State → Bool) → Bool
at_some None f = false
at_some (Some t) f = f t

abbrev pub sum_over_operators : ℕ → (ℕ → ℕ) → ℕ
sum_over_operators zero f = 0
sum_over_operators (suc n) f = sum_over_operators n f + f n

-- the list begins with the operator, and the rest passes
abbrev pub next : ℕ → (List ℕ → Bool) → List ℕ → Bool
next k rest [] = false
next k rest (op ∷ p) = eqb op k && rest p

-- the list begins with these operators, and what follows has this cost
abbrev pub begins : System → List ℕ → ℕ → List ℕ → Bool
begins y [] cost = λ p. eqb (cost_in_system y p) cost
begins y (op ∷ ops) cost = next op (begins y ops cost)

-- at how many places p, run from s at cost d, has spent this cost, is in a state of the set, and goes on as wanted
abbrev pub hits : System → (State → Bool) → ℕ → (List ℕ → Bool) → ℕ → State → List ℕ → ℕ
hits y has cost rest d s [] = one_if (rest [] && (eqb d cost && has s))
hits y has cost rest d s (op ∷ p) = one_if (rest (op ∷ p) && (eqb d cost && has s)) + on_some (y.step op s) (λ t. hits y has cost rest (d + y.cost op) t p)
