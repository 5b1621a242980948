-- How far entries are from a plan, and what is left to do.
use Rattle.std.proofs.Common.{◌≡◌, ℕ, ◌+◌, ◌-◌, ◌*◌, ◌<◌, ◌≤◌, ◌^◌, ◌⊎◌, inl, inr, min, cond, List, [], ◌∷◌, refl, arith}
use Rattle.std.proofs.Math.Nat.{mul-le-mul_right}
use Rattle.std.specs.Prelude.{nat_lt}
use Rattle.std.specs.List.{AllByRecursion, sum_by}
use Rattle.std.proofs.lemmas.Bool.Decides.{nat_tests}
use Rattle.std.proofs.lemmas.List.Sums.{sum_by-cons}
use Rattle.space_api.specs.View.{View}
use Rattle.cost_to_go.specs.declared.search.CostToGo.{CostToGo}
use Rattle.lazy_plans.specs.Queue.{Replaced}
use Rattle.prefix_tree.specs.Order.{IsNoLater}
use Rattle.prefix_tree.specs.declared.tree.Node.{Node}
use Rattle.prefix_tree.specs.declared.entry.Entry.{Entry}
use Rattle.prefix_plans.specs.Left.{KnownToGo}
use Rattle.prefix_plans.specs.EndChildren.{IsEndEntry, outdated}
use Rattle.prefix_plans.specs.EndStanding.{all_outdated}
use Rattle.prefix_plans.proofs.Dating.{outdated_replaced}
use Rattle.prefix_plans.specs.Standing.{farness, farthest, nearest, prefix_work}

next_times : (a b c : ℕ) → a < b → a * c + c ≤ b * c
next_times a b c lt = grind (arith, mul-le-mul_right c lt)

lex : (a b m n c : ℕ) → a < b → m < c → a * c + m < b * c + n
lex a b m n c lt low = omega (arith, next_times a b c lt, low)

up_to : (a b m n c : ℕ) → a ≤ b → m < n → a * c + m < b * c + n
up_to a b m n c le lt = omega (arith, mul-le-mul_right c le, lt)

-- three numbers, the first one first
module _ (D R : ℕ) where
  far_first : (b k d e r t : ℕ) → b < k → d < D → r < R → (b * D + d) * R + r < (k * D + e) * R + t
  far_first b k d e r t lt dl rl = lex (b * D + d) (k * D + e) r t R (lex b k d e D lt dl) rl

  far_second : (b d e r t : ℕ) → d < e → r < R → (b * D + d) * R + r < (b * D + e) * R + t
  far_second b d e r t lt rl = lex (b * D + d) (b * D + e) r t R (omega (arith, lt)) rl

  far_then : (b c d x y r t : ℕ) → b ≡ c → d ≡ x → (x < y) ⊎ ((x ≡ y) × (r < t)) → r < R → (b * D + d) * R + r < (c * D + y) * R + t
  far_then b c d x y r t e g (inl lt) low = rw e (far_second c d y r t (omega (arith, g, lt)) low)
  far_then b c d x y r t e g (inr h) low = rw (e, g, h.0) (plus ((c * D + y) * R) r t h.1)
    where
      plus : (n a b : ℕ) → a < b → n + a < n + b
      plus n a b lt = omega (arith, lt)

  far_most : (b d r B : ℕ) → b < B → d < D → r < R → (b * D + d) * R + r < B * D * R
  far_most b d r B bl dl rl = let one : b * D + d < B * D = (let l = lex b B d 0 D bl dl in omega (arith, l)) in
      let l = lex (b * D + d) (B * D) r 0 R one rl in omega (arith, l)

same_or : (a b : ℕ) → a ≤ b → (a < b) ⊎ (a ≡ b)
same_or a b le = grind arith

far_below : {Set : Type 0} (v : View Set) (f : CostToGo Set) (nodes : List Node) (e : Entry) → IsEndEntry v f nodes e → farness e < farthest
far_below v f nodes e z = far_most (2 ^ 64 + 1) (2 ^ 64) e.bound.0 (e.bound.0 - e.cost) e.ring.0 (2 ^ 128) z.range (omega (arith, z.span)) z.ring

-- an entry that is handed out no later is no farther
no_farther : {Set : Type 0} (v : View Set) (f : CostToGo Set) (nodes : List Node) (e k : Entry) → IsEndEntry v f nodes e
    → IsEndEntry v f nodes k → IsNoLater e k → farness e ≤ farness k
no_farther v f nodes e k z w (inl less) =
    let l = far_first (2 ^ 64 + 1) (2 ^ 64) e.bound.0 k.bound.0 (e.bound.0 - e.cost) (k.bound.0 - k.cost) e.ring.0
    k.ring.0 less (omega (arith, z.span)) z.ring in
    weaker (farness e) (farness k) l
  where
    weaker : (a b : ℕ) → a < b → a ≤ b
    weaker a b lt = omega arith
no_farther v f nodes e k z w (inr (same, inl dear)) =
    let d : e.bound.0 - e.cost < k.bound.0 - k.cost = omega (arith, same, dear, z.least) in
    let l = far_second (2 ^ 64 + 1) (2 ^ 64) k.bound.0 (e.bound.0 - e.cost) (k.bound.0 - k.cost) e.ring.0 k.ring.0 d z.ring in
    moved e.bound.0 k.bound.0 same l
  where
    moved : (b c : ℕ) → b ≡ c → (c * (2 ^ 64 + 1) + (e.bound.0 - e.cost)) * 2 ^ 64 + e.ring.0 < farness k
        → (b * (2 ^ 64 + 1) + (e.bound.0 - e.cost)) * 2 ^ 64 + e.ring.0 ≤ farness k
    moved b c e lt = rw e (weaker _ _ lt)
      where
        weaker : (a b : ℕ) → a < b → a ≤ b
        weaker a b lt = omega arith
no_farther v f nodes e k z w (inr (same, inr (cost, ring))) = all_same e.bound.0 k.bound.0 e.cost k.cost e.ring.0 k.ring.0 same cost ring
  where
    all_same : (b c x y r t : ℕ) → b ≡ c → y ≡ x → r ≤ t → (b * (2 ^ 64 + 1) + (b - x)) * 2 ^ 64 + r ≤ (c * (2 ^ 64 + 1) + (c - y)) * 2 ^ 64 + t
    all_same b c x y r t e g le = rw (e, g) (plus ((c * (2 ^ 64 + 1) + (c - x)) * 2 ^ 64) r t le)
      where
        plus : (n a b : ℕ) → a ≤ b → n + a ≤ n + b
        plus n a b le = omega arith

min_left : (a b n : ℕ) → a < n → min a b < n
min_left a b n lt = omega (arith, lt)

min_right : (a b n : ℕ) → b < n → min a b < n
min_right a b n lt = omega (arith, lt)

min_both : (a b n : ℕ) → n ≤ a → n ≤ b → n ≤ min a b
min_both a b n j k = omega (arith, j, k)

min_most : (a b n : ℕ) → b ≤ n → min a b ≤ n
min_most a b n le = omega (arith, le)

less_or : (a b : ℕ) → (a < b) ⊎ (b ≤ a)
less_or a b = grind arith

test_less : (a b : ℕ) → a < b → ◌≡◌ {A = ℕ} (cond (nat_lt a b) 1 0) 1
test_less a b lt = grind (arith, nat_tests)

test_not : (a b : ℕ) → b ≤ a → ◌≡◌ {A = ℕ} (cond (nat_lt a b) 1 0) 0
test_not a b le = grind (arith, nat_tests)

-- 1 where the entry is nearer than n, else 0
abbrev pub one_near : ℕ → Entry → ℕ
one_near n e = cond (nat_lt (farness e) n) 1 0

-- how many entries are nearer than n
abbrev pub near : ℕ → List Entry → ℕ
near n [] = 0
near n (e ∷ es) = one_near n e + near n es

near_sum : (n : ℕ) (es : List Entry) → near n es ≡ sum_by (one_near n) es
near_sum n [] = refl
near_sum n (e ∷ es) = plus (one_near n e) (near n es) (sum_by (one_near n) es) (sum_by (one_near n) (e ∷ es)) (near_sum n es) (sum_by-cons (one_near n) e es)
  where
    plus : (a b c d : ℕ) → b ≡ c → d ≡ a + c → a + b ≡ d
    plus a b c d p q = omega (arith, p, q)

-- some entry is nearer than n
some_near : (n : ℕ) (es : List Entry) → 0 < near n es → nearest es < n
some_near n [] some = absurd (omega (arith, some))
some_near n (e ∷ es) some = elim (less_or (farness e) n) [
  | inl lt ↦ min_left (farness e) (nearest es) n lt
  | inr ge ↦ min_right (farness e) (nearest es) n (some_near n es (rest (one_near n e) (near n es) (test_not (farness e) n ge) some))
]
  where
    rest : (a b : ℕ) → a ≡ 0 → 0 < a + b → 0 < b
    rest a b z lt = omega (arith, z, lt)

pub nearest_top : (es : List Entry) → nearest es ≤ farthest
nearest_top [] = same farthest
  where
    same : (a : ℕ) → a ≤ a
    same a = omega arith
nearest_top (e ∷ es) = min_most (farness e) (nearest es) farthest (nearest_top es)

none_nearer : (n : ℕ) (es : List Entry) → n ≤ farthest → AllByRecursion (λ k. n ≤ farness k) es → n ≤ nearest es
none_nearer n [] top a = top
none_nearer n (e ∷ es) top a = min_both (farness e) (nearest es) n a.0 (none_nearer n es top a.1)

-- the first entry is the nearest
module _ {Set : Type 0} (v : View Set) (f : CostToGo Set) (nodes : List Node) where
  none_before : (e : Entry) (es : List Entry) → IsEndEntry v f nodes e → AllByRecursion (IsEndEntry v f nodes) es
      → AllByRecursion (IsNoLater e) es → AllByRecursion (λ k. farness e ≤ farness k) es
  none_before e [] z a b = tt
  none_before e (k ∷ es) z a b = (no_farther v f nodes e k z a.0 b.0, none_before e es z a.1 b.1)

  pub first_nearest : (e : Entry) (es : List Entry) → IsEndEntry v f nodes e → AllByRecursion (IsEndEntry v f nodes) es
      → AllByRecursion (IsNoLater e) es → farness e ≤ nearest es
  first_nearest e es z a b = none_nearer (farness e) es (weaker (farness e) farthest (far_below v f nodes e z)) (none_before e es z a b)
    where
      weaker : (a b : ℕ) → a < b → a ≤ b
      weaker a b lt = omega (arith, lt)

near_replaced : (n : ℕ) (es kids new : List Entry) (e : Entry) → Replaced es kids e new → near n es + near n kids ≡ one_near n e + near n new
near_replaced n es kids new e taken = rw (near_sum n es, near_sum n kids, near_sum n new) (taken (one_near n))

-- e gave way to its children, of which none is out of date and one is nearer
pub open_less : (known : KnownToGo) (es kids new : List Entry) (e : Entry) → Replaced es kids e new
    → farness e ≤ nearest es → outdated known e ≡ 0 → all_outdated known kids ≡ 0 → 0 < near (farness e) kids
    → prefix_work known new < prefix_work known es
open_less known es kids new e taken first own fresh nearer =
    up_to (all_outdated known new) (all_outdated known es) (nearest new) (nearest es) (farthest + 1)
    (few (all_outdated known es) (all_outdated known kids) (outdated known e) (all_outdated known new) (outdated_replaced known es kids new e taken) fresh)
    (before (nearest new) (farness e) (nearest es) (some_near (farness e) new
    (many (near (farness e) es) (near (farness e) kids) (one_near (farness e) e) (near (farness e) new)
    (near_replaced (farness e) es kids new e taken) (test_not (farness e) (farness e) (same (farness e)))
    nearer)) first)
  where
    same : (a : ℕ) → a ≤ a
    same a = omega arith

    before : (a b c : ℕ) → a < b → b ≤ c → a < c
    before a b c lt le = omega (arith, lt, le)

    few : (o k s n : ℕ) → o + k ≡ s + n → k ≡ 0 → n ≤ o
    few o k s n h z = omega (arith, h, z)

    many : (o k s n : ℕ) → o + k ≡ s + n → s ≡ 0 → 0 < k → 0 < n
    many o k s n h z lt = omega (arith, h, z, lt)

-- e gave way to what is known of it now
pub learn_less : (known : KnownToGo) (es others new : List Entry) (e : Entry) → Replaced es others e new
    → outdated known e ≡ 1 → all_outdated known others ≡ 0 → prefix_work known new < prefix_work known es
learn_less known es others new e taken own fresh =
    lex (all_outdated known new) (all_outdated known es) (nearest new) (nearest es) (farthest + 1)
    (fewer (all_outdated known es) (all_outdated known others) (outdated known e) (all_outdated known new)
    (outdated_replaced known es others new e taken) fresh own)
    (top (nearest new) farthest (nearest_top new))
  where
    fewer : (o k s n : ℕ) → o + k ≡ s + n → k ≡ 0 → s ≡ 1 → n < o
    fewer o k s n h z one = omega (arith, h, z, one)

    top : (a b : ℕ) → a ≤ b → a < b + 1
    top a b le = omega (arith, le)

-- an entry that is nearer than another, by what is left and the ring
pub nearer : (e k : Entry) (from : ℕ) → k.bound.0 ≡ e.bound.0 → k.bound.0 ≡ k.cost + from
    → (from < e.bound.0 - e.cost) ⊎ ((from ≡ e.bound.0 - e.cost) × (k.ring.0 < e.ring.0)) → k.ring.0 < 2 ^ 64
    → farness k < farness e
nearer e k from same is earlier small =
    let left : k.bound.0 - k.cost ≡ from = omega (arith, is) in
    far_then (2 ^ 64 + 1) (2 ^ 64) k.bound.0 e.bound.0 (k.bound.0 - k.cost) from (e.bound.0 - e.cost) k.ring.0 e.ring.0 same left earlier small

pub one_nearer : (n : ℕ) (e : Entry) → farness e < n → one_near n e ≡ 1
one_nearer n e lt = test_less (farness e) n lt
