-- A child that is added, over plain entries.
use Rattle.std.proofs.Common.{◌≡◌, ℕ, ◌+◌, ◌-◌, ◌*◌, ◌^◌, ◌<◌, ◌≤◌, ◌⊎◌, inl, inr, Bool, true, false, ◌&&◌, eqb, List, [], ◌∷◌, ◌++◌, length, length-append, Option, Some, None, refl, sym, ◌∙◌, ap, subst, arith}
use Rattle.std.specs.List.{AllByRecursion}
use Rattle.task_system.specs.System.{State, System, RunsInSystem}
use Rattle.plan_cuts.specs.Counts.{one_if, on_some, begins, hits}
use Rattle.plan_cuts.specs.Entries.{PlainEntry, Head, Tail, FwdIn, BwdIn, into, entry_hits, child_hits, IsChild, height, entry_weight}
use Rattle.plan_cuts.proofs.Paths.{both, le_of}
use Rattle.plan_cuts.proofs.Queue.{total_append}
use Rattle.plan_cuts.proofs.Rising.{in_or_not, sum_rising}
use Rattle.plan_cuts.specs.Growing.{Fallable, SomeChild, Falling, Added, sum_list, IsIn, MissesNone, Sofar, Gathered}

abbrev pub rest_of : PlainEntry → ℕ
rest_of (Head has cost ring ops after) = cost
rest_of (Tail cost ring ops) = cost

abbrev pub ring_of : PlainEntry → ℕ
ring_of (Head has cost ring ops after) = ring
ring_of (Tail cost ring ops) = ring

no_end : (a b : Bool) → one_if (a && (b && false)) ≡ 0
no_end true true = refl
no_end true false = refl
no_end false b = refl

on_none : (o : Option State) (f : State → ℕ) → ((t : State) → f t ≡ 0) → on_some o f ≡ 0
on_none None f h = refl
on_none (Some t) f h = h t

never : (y : System) (cost : ℕ) (test : List ℕ → Bool) (d : ℕ) (s : State) (p : List ℕ) → hits y (λ t. false) cost test d s p ≡ 0
never y cost test d s [] = no_end (test []) (eqb d cost)
never y cost test d s (op ∷ p) = omega (
  arith,
  no_end (test (op ∷ p)) (eqb d cost),
  on_none (y.step op s)
      (λ t. hits y (λ r. false) cost test (d + y.cost op) t p) (λ t. never y cost test (d + y.cost op) t p),
)

pub hits_same : (y : System) (f g : State → Bool) (cost : ℕ) (test : List ℕ → Bool) (d : ℕ) (s : State) (p : List ℕ)
    → ((t : State) → f t ≡ g t) → hits y f cost test d s p ≡ hits y g cost test d s p
hits_same y f g cost test d s p h = ap (λ (k : State → Bool). hits y k cost test d s p) (λ i t. h t i)

pub hits_none : (y : System) (f : State → Bool) (cost : ℕ) (test : List ℕ → Bool) (d : ℕ) (s : State) (p : List ℕ)
    → ((t : State) → f t ≡ false) → hits y f cost test d s p ≡ 0
hits_none y f cost test d s p h = hits_same y f (λ t. false) cost test d s p h ∙ never y cost test d s p

module _ (y : System) (front back : ℕ → State → Bool) where
  pub child_counts : (e : PlainEntry) (k : ℕ) (c : PlainEntry) (p : List ℕ) → IsChild y front back e k c → entry_hits y c p ≡ child_hits y front back e p k
  child_counts (Head has cost ring ops after) k (Head has2 cost2 ring2 ops2 after2) p c =
      rw (c.1, c.2, c.3) (hits_same y has2 (into y front has cost k) (cost - y.cost k)
      (begins y (k ∷ ops) after) 0 y.initial p c.0)
  child_counts (Head has cost ring ops after) k (Tail cost2 ring2 ops2) p c = absurd c
  child_counts (Tail cost ring ops) k (Tail cost2 ring2 ops2) p c = rw (c.1, c.2, c.0) refl
  child_counts (Tail cost ring ops) k (Head has2 cost2 ring2 ops2 after2) p c = absurd c

  pub child_weight : (e : PlainEntry) (k : ℕ) (c : PlainEntry) → IsChild y front back e k c → entry_weight c ≡ entry_weight e + 1
  child_weight (Head has cost ring ops after) k (Head has2 cost2 ring2 ops2 after2) c = omega (arith, ap length c.2)
  child_weight (Head has cost ring ops after) k (Tail cost2 ring2 ops2) c = absurd c
  child_weight (Tail cost ring ops) k (Tail cost2 ring2 ops2) c = omega (arith, ap length c.2, length-append ops (k ∷ []))
  child_weight (Tail cost ring ops) k (Head has2 cost2 ring2 ops2 after2) c = absurd c

  lower : (cost ring cost2 ring2 : ℕ) → cost2 ≤ cost → ring2 < 2 ^ 64 → (cost2 < cost) ⊎ (ring2 < ring) → cost2 * 2 ^ 64 + ring2 < cost * 2 ^ 64 + ring
  lower cost ring cost2 ring2 le fits (inl a) = omega (arith, le, fits, a)
  lower cost ring cost2 ring2 le fits (inr a) = omega (arith, le, fits, a)

  pub child_lower : (e : PlainEntry) (k : ℕ) (c : PlainEntry) → IsChild y front back e k c → ring_of c < 2 ^ 64
      → (rest_of c < rest_of e) ⊎ (ring_of c < ring_of e) → height c < height e
  child_lower (Head has cost ring ops after) k (Head has2 cost2 ring2 ops2 after2) c fits h =
      omega (arith, lower cost ring cost2 ring2 (omega (arith, c.1)) fits h)
  child_lower (Head has cost ring ops after) k (Tail cost2 ring2 ops2) c fits h = absurd c
  child_lower (Tail cost ring ops) k (Tail cost2 ring2 ops2) c fits h = lower cost ring cost2 ring2 (omega (arith, c.1)) fits h
  child_lower (Tail cost ring ops) k (Head has2 cost2 ring2 ops2 after2) c fits h = absurd c

  stuck : (w cost ring n ring2 : ℕ) → w ≤ cost → cost ≤ cost - w → ring ≤ ring2 → ring2 ≤ n → (0 < w) ⊎ ((w ≡ 0) × (n + 1 ≡ ring)) → ⊥
  stuck w cost ring n ring2 le stays up down (inl a) = omega (arith, le, stays, a)
  stuck w cost ring n ring2 le stays up down (inr a) = omega (arith, up, down, a.1)

  -- a child that doesn't fall isn't one that the walk needs
  pub level_off : (e : PlainEntry) (k : ℕ) (c : PlainEntry) → IsChild y front back e k c → rest_of e ≤ rest_of c
      → ring_of e ≤ ring_of c → Fallable y front back e k → ⊥
  level_off (Head has cost ring ops after) k (Head has2 cost2 ring2 ops2 after2) c a b f =
      let le : y.cost k ≤ cost = le_of _ _ (both _ _ f.2).0 in
      let down : ring2 ≤ f.0 = c.5 f.1 f.0 (c.0 f.1 ∙ f.2) (subst (λ (x : ℕ). FwdIn y x f.0 f.1) (sym c.1) f.3) in
      stuck (y.cost k) cost ring f.0 ring2 le (omega (arith, a, c.1)) b down f.4
  level_off (Head has cost ring ops after) k (Tail cost2 ring2 ops2) c a b f = absurd c
  level_off (Tail cost ring ops) k (Tail cost2 ring2 ops2) c a b f =
      let le : y.cost k ≤ cost = le_of _ _ (both _ _ f.2).0 in
      let down : ring2 ≤ f.0 = c.4 f.1 f.0 (subst (λ (x : List ℕ). RunsInSystem y y.initial x f.1) (sym c.2) f.3)
      (subst (λ (x : ℕ). BwdIn y x f.0 f.1) (sym c.1) f.4) in
      stuck (y.cost k) cost ring f.0 ring2 le (omega (arith, a, c.1)) b down f.5
  level_off (Tail cost ring ops) k (Head has2 cost2 ring2 ops2 after2) c a b f = absurd c

  all_push : {X : Type 0} (P : X → Type 0) (xs : List X) (x : X) → AllByRecursion P xs → P x → AllByRecursion P (xs ++ x ∷ [])
  all_push P [] x a h = (h, tt)
  all_push P (z ∷ xs) x a h = (a.0, all_push P xs x a.1 h)

  module _ (e : PlainEntry) (k : ℕ) (level falling level2 falling2 : List PlainEntry) where
    pub added_none : ((p : List ℕ) → child_hits y front back e p k ≡ 0) → (Fallable y front back e k → ⊥)
        → level2 ≡ level → falling2 ≡ falling → Added y front back e k level falling level2 falling2
    added_none none off a b = rw (a, b) (record {
      counts = λ p. omega (arith, none p);
      each = λ h. h;
      each_falls = λ h. h;
      more = omega arith;
      falls = λ f. absurd (off f);
    })

    pub added_falls : (c : PlainEntry) → IsChild y front back e k c → height c < height e → level2 ≡ level
        → falling2 ≡ falling ++ c ∷ [] → Added y front back e k level falling level2 falling2
    added_falls c is low a b = rw (a, b) (record {
      counts = λ p. omega (arith, total_append y falling (c ∷ []) p, child_counts e k c p is);
      each = λ h. h;
      each_falls = λ h. all_push (Falling y front back e) falling c h ((k, is), low, child_weight e k c is);
      more = omega (arith, length-append falling (c ∷ []));
      falls = λ f. omega (arith, length-append falling (c ∷ []));
    })

    pub added_level : (c : PlainEntry) → IsChild y front back e k c → rest_of e ≤ rest_of c → ring_of e ≤ ring_of c
        → level2 ≡ level ++ c ∷ [] → falling2 ≡ falling → Added y front back e k level falling level2 falling2
    added_level c is s r a b = rw (a, b) (record {
      counts = λ p. omega (arith, total_append y level (c ∷ []) p, child_counts e k c p is);
      each = λ h. all_push (SomeChild y front back e) level c h (k, is);
      each_falls = λ h. h;
      more = omega arith;
      falls = λ f. absurd (level_off e k c is s r f);
    })

  in_push : (ks : List ℕ) (k i : ℕ) → IsIn (ks ++ k ∷ []) i → IsIn ks i ⊎ (k ≡ i)
  in_push [] k i (inl h) = inr h
  in_push [] k i (inr h) = absurd h
  in_push (x ∷ ks) k i (inl h) = inl (inl h)
  in_push (x ∷ ks) k i (inr h) = elim (in_push ks k i h) [ inl a ↦ inl (inr a) | inr b ↦ inr b ]

  sum_push : (ks : List ℕ) (k : ℕ) (f : ℕ → ℕ) → sum_list (ks ++ k ∷ []) f ≡ sum_list ks f + f k
  sum_push [] k f = omega arith
  sum_push (x ∷ ks) k f = omega (arith, sum_push ks k f)

  pub sofar_none : (e : PlainEntry) → Sofar y front back e [] [] []
  sofar_none e = record { counts = λ p. refl; each = tt; each_falls = tt; falls = λ i h f. absurd h }

  pub sofar_more : (e : PlainEntry) (done : List ℕ) (k : ℕ) (level falling level2 falling2 : List PlainEntry)
      → Sofar y front back e done level falling → Added y front back e k level falling level2 falling2
      → Sofar y front back e (done ++ k ∷ []) level2 falling2
  sofar_more e done k level falling level2 falling2 s a = record {
    counts = λ p. omega (arith, s.counts p, a.counts p, sum_push done k (child_hits y front back e p));
    each = a.each s.each;
    each_falls = a.each_falls s.each_falls;
    falls = λ i h f. elim (in_push done k i h) [
      | inl b ↦ omega (arith, s.falls i b f, a.more)
      | inr b ↦ a.falls (subst (λ (x : ℕ). Fallable y front back e x) (sym b) f)
    ];
  }

  pub gathered : (e : PlainEntry) (ops : List ℕ) (level falling : List PlainEntry) → MissesNone y front back e ops
      → Sofar y front back e ops level falling → Gathered y front back e level falling
  gathered e ops level falling m s = record {
    counts = λ p. s.counts p ∙ sum_rising y.operators ops (child_hits y front back e p) m.rising m.range (λ k b off. (m.others k b off).0 p);
    each = s.each;
    each_falls = s.each_falls;
    falls = λ k b f. elim (in_or_not ops k) [ inl h ↦ s.falls k h f | inr h ↦ absurd ((m.others k b h).1 f) ];
  }
