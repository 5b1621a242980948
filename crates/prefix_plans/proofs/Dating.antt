-- How many entries are out of date.
use Rattle.std.proofs.Common.{◌≡◌, ℕ, ◌+◌, ◌<◌, ◌⊎◌, inl, inr, cond, Bool, true, false, List, [], ◌∷◌, refl, arith}
use Rattle.std.specs.Prelude.{nat_lt, ◌||◌}
use Rattle.std.specs.List.{sum_by}
use Rattle.std.proofs.lemmas.Bool.Decides.{nat_tests}
use Rattle.std.proofs.lemmas.List.Sums.{sum_by-cons}
use Rattle.lazy_plans.specs.Queue.{Replaced}
use Rattle.prefix_tree.specs.declared.entry.Entry.{Entry}
use Rattle.prefix_plans.specs.Left.{KnownToGo, bound_at}
use Rattle.prefix_plans.specs.EndChildren.{IsOutdated, outdated}
use Rattle.prefix_plans.specs.EndStanding.{all_outdated}

pub outdated_sum : (n : KnownToGo) (es : List Entry) → all_outdated n es ≡ sum_by (outdated n) es
outdated_sum n [] = refl
outdated_sum n (e ∷ es) = plus (outdated n e) (all_outdated n es) (sum_by (outdated n) es)
    (sum_by (outdated n) (e ∷ es)) (outdated_sum n es) (sum_by-cons (outdated n) e es)
  where
    plus : (a b c d : ℕ) → b ≡ c → d ≡ a + c → a + b ≡ d
    plus a b c d p q = omega (arith, p, q)

-- e gave way to others
pub outdated_replaced : (n : KnownToGo) (es kids new : List Entry) (e : Entry) → Replaced es kids e new
    → all_outdated n es + all_outdated n kids ≡ outdated n e + all_outdated n new
outdated_replaced n es kids new e taken = rw (outdated_sum n es, outdated_sum n kids, outdated_sum n new) (taken (outdated n))

settled_dated : (b t : Bool) → b ≡ true → ◌≡◌ {A = ℕ} (cond b 0 (cond t 1 0)) 0
settled_dated b t e = rw e refl

pub ranked_dated : (known : KnownToGo) (e : Entry) → e.settled ≡ true → outdated known e ≡ 0
ranked_dated known e on = settled_dated e.settled (nat_lt e.ring.0 known.many || nat_lt e.bound.0 (bound_at known.next e.cost)) on

less_true : (a b : ℕ) → a < b → nat_lt a b ≡ true
less_true a b lt = grind (arith, nat_tests)

open_dated : (b t u : Bool) → b ≡ false → (t ≡ true) ⊎ (u ≡ true) → ◌≡◌ {A = ℕ} (cond b 0 (cond (t || u) 1 0)) 1
open_dated b t u off (inl e) = rw (off, e) refl
open_dated b true u off (inr e) = rw off refl
open_dated b false u off (inr e) = rw (off, e) refl

pub unranked_dated : (known : KnownToGo) (e : Entry) → e.settled ≡ false → IsOutdated known e → outdated known e ≡ 1
unranked_dated known e off old = open_dated e.settled (nat_lt e.ring.0 known.many) (nat_lt e.bound.0 (bound_at known.next e.cost)) off (elim old [
  | inl lt ↦ inl (less_true e.ring.0 known.many lt)
  | inr lt ↦ inr (less_true e.bound.0 (bound_at known.next e.cost) lt)
])
