-- A turn out of what its expansion gives.
use Rattle.std.proofs.Common.{◌≡◌, ℕ, ◌+◌, ◌<◌, inl, inr, Bool, true, false, ◌&&◌, eqb, List, [], ◌∷◌, ◌++◌, length, refl, ◌∙◌, ap, subst, arith}
use Rattle.std.specs.List.{AllByRecursion}
use Rattle.task_system.specs.System.{State, System, IsSystemPlan}
use Rattle.plan_cuts.specs.Counts.{one_if, begins}
use Rattle.plan_cuts.specs.Entries.{PlainEntry, Head, Tail, Tables, entry_hits, total, begun_hits, StandsOnLayers, IsBegun, FollowsEntry, Done, Open, height, entry_weight, Goes, GivesPlan}
use Rattle.plan_cuts.proofs.Queue.{total_append}
use Rattle.plan_cuts.proofs.Drawing.{head_falls, tail_falls}
use Rattle.plan_cuts.specs.Growing.{SomeChild, Falling, Gathered}

lasts : (xs : List PlainEntry) → 0 < length xs → (ys : List PlainEntry) × (c : PlainEntry) × (xs ≡ ys ++ c ∷ [])
lasts [] h = absurd (omega (arith, h))
lasts (x ∷ []) h = ([], x, refl)
lasts (x ∷ z ∷ xs) h = let r = lasts (z ∷ xs) (omega arith) in (x ∷ r.0, r.1, ap (λ (q : List PlainEntry). x ∷ q) r.2)

regroup : (xs ys : List PlainEntry) (c : PlainEntry) → xs ++ (ys ++ c ∷ []) ≡ (xs ++ ys) ++ c ∷ []
regroup [] ys c = refl
regroup (x ∷ xs) ys c = ap (λ (q : List PlainEntry). x ∷ q) (regroup xs ys c)

all_append : {X : Type 0} (P : X → Type 0) (xs ys : List X) → AllByRecursion P xs → AllByRecursion P ys → AllByRecursion P (xs ++ ys)
all_append P [] ys a b = b
all_append P (x ∷ xs) ys a b = (a.0, all_append P xs ys a.1 b)

all_map : {X : Type 0} (P Q : X → Type 0) (xs : List X) → ((x : X) → P x → Q x) → AllByRecursion P xs → AllByRecursion Q xs
all_map P Q [] f a = tt
all_map P Q (x ∷ xs) f a = (f x a.0, all_map P Q xs f a.1)

all_last : {X : Type 0} (P : X → Type 0) (xs : List X) (x : X) → AllByRecursion P (xs ++ x ∷ []) → P x
all_last P [] x a = a.0
all_last P (y ∷ xs) x a = all_last P xs x a.1

module _ (y : System) (front back : ℕ → State → Bool) (e : PlainEntry) (others level falling : List PlainEntry)
    (sofar : Gathered y front back e level falling) where
  follow : AllByRecursion (FollowsEntry y front back e) (level ++ falling)
  follow = all_append (FollowsEntry y front back e) level falling
      (all_map (SomeChild y front back e) (FollowsEntry y front back e) level (λ c h. inl h) sofar.each)
      (all_map (Falling y front back e) (FollowsEntry y front back e) falling (λ c h. inl h.0) sofar.each_falls)

  -- the last falling child is taken next
  pub goes_plain : Open y e → ((p : List ℕ) → begun_hits y e p ≡ 0) → 0 < length falling → Goes y front back (others ++ e ∷ []) (others ++ (level ++ falling))
  goes_plain o none some =
      let l = lasts falling some in
      let c = l.1 in
      let whole : level ++ falling ≡ (level ++ l.0) ++ c ∷ [] = ap (λ (q : List PlainEntry). level ++ q) l.2 ∙ regroup level l.0 c in
      let fall : Falling y front back e c = all_last (Falling y front back e) l.0 c
      (subst (λ (q : List PlainEntry). AllByRecursion (Falling y front back e) q) l.2 sofar.each_falls) in
      record {
        taken = e;
        others = others;
        pushed = level ++ l.0;
        last = c;
        was = refl;
        is = ap (λ (q : List PlainEntry). others ++ q) whole;
        unfinished = o;
        each = subst (λ (q : List PlainEntry). AllByRecursion (FollowsEntry y front back e) q) whole follow;
        counts = λ p. omega (arith, ap (λ (q : List PlainEntry). total y q p) whole, total_append y level falling p, sofar.counts p, none p);
        falls = fall.1;
        longer = fall.2;
      }

  -- the suffix that begins is taken next
  pub goes_begun : (c : PlainEntry) → Open y e → IsBegun y e c → ((p : List ℕ) → entry_hits y c p ≡ begun_hits y e p)
      → height c < height e → entry_weight c ≡ entry_weight e + 1 → Goes y front back (others ++ e ∷ [])
      (others ++ ((level ++ falling) ++ c ∷ []))
  goes_begun c o begun same low long = record {
    taken = e;
    others = others;
    pushed = level ++ falling;
    last = c;
    was = refl;
    is = refl;
    unfinished = o;
    each = all_append (FollowsEntry y front back e) (level ++ falling) (c ∷ []) follow (inr begun, tt);
    counts = λ p. omega (arith, total_append y (level ++ falling) (c ∷ []) p, total_append y level falling p, sofar.counts p, same p);
    falls = low;
    longer = long;
  }

  pub gives_plain : (p : List ℕ) → Done y e p → GivesPlan y front back (others ++ e ∷ []) (others ++ (level ++ falling)) p
  gives_plain p d = record {
    taken = e;
    others = others;
    pushed = level ++ falling;
    was = refl;
    is = refl;
    done = d;
    each = follow;
    counts = λ q. omega (arith, total_append y level falling q, sofar.counts q);
  }

-- an entry that isn't finished has a falling child
pub head_some : {y : System} {front back : ℕ → State → Bool} {f b : ℕ} (listed : ℕ) → Tables y front back f b
    → {has : State → Bool} {cost ring : ℕ} {ops : List ℕ} {after : ℕ} {level falling : List PlainEntry}
    → Gathered y front back (Head has cost ring ops after) level falling
    → StandsOnLayers y f b listed (Head has cost ring ops after) → ((cost ≡ 0) × (has y.initial ≡ true) → ⊥)
    → 0 < length falling
head_some {y = y} {front = front} {back = back} {f = f} {b = b} listed tab {has = has} {cost = cost} {ring = ring}
    {ops = ops} {after = after} s st off =
    elim (head_falls y front back f b tab has cost ring listed ops after st) [
      | inl h ↦ absurd (off h)
      | inr h ↦ s.falls h.0 h.3 (h.1, h.2, h.4, h.5, h.6)
    ]

pub tail_some : {y : System} {front back : ℕ → State → Bool} {f b : ℕ} (listed : ℕ) → Tables y front back f b
    → {cost ring : ℕ} {ops : List ℕ} {level falling : List PlainEntry}
    → Gathered y front back (Tail cost ring ops) level falling → StandsOnLayers y f b listed (Tail cost ring ops)
    → ((cost ≡ 0) × IsSystemPlan y ops → ⊥) → 0 < length falling
tail_some {y = y} {front = front} {back = back} {f = f} {b = b} listed tab {cost = cost} {ring = ring} {ops = ops} s st
    off =
    elim (tail_falls y front back f b tab cost ring listed ops st) [
      | inl h ↦ absurd (off h)
      | inr h ↦ s.falls h.0 h.3 (h.1, h.2, h.4, h.5, h.6, h.7)
    ]

begun_counts : (a : Bool) → a ≡ (a && true)
begun_counts true = refl
begun_counts false = refl

pub begins_same : (y : System) (has : State → Bool) (ring : ℕ) (ops : List ℕ) (after ring2 : ℕ) (p : List ℕ)
    → has y.initial ≡ true → entry_hits y (Tail after ring2 ops) p ≡ begun_hits y (Head has 0 ring ops after) p
begins_same y has ring ops after ring2 p h = rw h (ap one_if (begun_counts (begins y ops after p)))

off_counts : (a c : Bool) → c ≡ false → one_if (a && c) ≡ 0
off_counts true c h = rw h refl
off_counts false c h = refl

pub not_begun : (y : System) (has : State → Bool) (cost ring : ℕ) (ops : List ℕ) (after : ℕ) (p : List ℕ)
    → (eqb 0 cost && has y.initial) ≡ false → begun_hits y (Head has cost ring ops after) p ≡ 0
not_begun y has cost ring ops after p h = off_counts (begins y ops after p) _ h
