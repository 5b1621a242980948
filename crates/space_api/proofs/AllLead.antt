-- The list of all operators misses none.
use Rattle.std.proofs.Common.{◌≡◌, ℕ, ◌+◌, ◌<◌, List, get_or, ◌∙◌, arith}
use Rattle.std.specs.List.{All, Contains}
use Rattle.std.specs.List.Sorted.{IsStrictlyIncreasing}
use Rattle.std.proofs.lemmas.List.{get_or_default}
use Rattle.space_api.specs.View.{View}
use Rattle.space_api.specs.Operators.{CountsTo, LeadInto, LeadFrom}

rising : (n : ℕ) (xs : List ℕ) → CountsTo n xs → IsStrictlyIncreasing xs
rising n xs c k lt = omega (arith, c.many, c.each k (omega (arith, c.many)), c.each (k + 1) (omega (arith, c.many)))

at : (n : ℕ) (xs : List ℕ) → CountsTo n xs → (k d : ℕ) → k < n → get_or xs k d ≡ k
at n xs c k d lt = get_or_default xs k d 0 (omega (arith, c.many)) ∙ c.each k lt

below : (n : ℕ) (xs : List ℕ) → CountsTo n xs → All (λ x. x < n) xs
below n xs c k d lt = omega (arith, c.many, at n xs c k d (omega (arith, c.many)))

each : (n : ℕ) (xs : List ℕ) → CountsTo n xs → (k : ℕ) → k < n → Contains xs k
each n xs c k lt = (k, omega (arith, c.many), at n xs c k k lt)

pub all_lead_into : {Set : Type 0} (v : View Set) (a : Set) (ops : List ℕ) → CountsTo v.system.operators ops → LeadInto v a ops
all_lead_into v a ops c = record {
  rising = rising v.system.operators ops c;
  known = below v.system.operators ops c;
  all = λ op s t leads has. each v.system.operators ops c op leads.number;
}

pub all_lead_from : {Set : Type 0} (v : View Set) (a : Set) (ops : List ℕ) → CountsTo v.system.operators ops → LeadFrom v a ops
all_lead_from v a ops c = record {
  rising = rising v.system.operators ops c;
  known = below v.system.operators ops c;
  all = λ op s t leads has. each v.system.operators ops c op leads.number;
}
