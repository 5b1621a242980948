-- The children of a prefix by operators that each cost something, over plain entries.
use Rattle.std.proofs.Common.{◌≡◌, ℕ, ◌-◌, ◌<◌, ◌≤◌, inl, inr, Bool, true, false, ◌&&◌, ◌||◌, leb, List, [], ◌∷◌, ◌++◌, length, length-append, append_assoc, refl, sym, ◌∙◌, ap, subst, arith}
use Rattle.std.specs.List.{All, AllByRecursion}
use Rattle.std.proofs.lemmas.List.Elements.{All-head, All-tail}
use Rattle.task_system.specs.System.{State, System, Listed}
use Rattle.space_api.specs.Listing.{ListsReached}
use Rattle.space_api.proofs.Listing.{reached_listed}
use Rattle.run_graph.specs.Reached.{ReachedAt}
use Rattle.plan_cuts.specs.Counts.{at_some, begins}
use Rattle.plan_cuts.specs.Entries.{PlainEntry, Head, Tables, Ends, zeros, into, total, child_hits, IsChild}
use Rattle.plan_cuts.specs.Growing.{Fallable, Falling, sum_list, IsIn, Sofar}
use Rattle.plan_cuts.proofs.Adding.{hits_none, child_lower, child_weight}
use Rattle.plan_cuts.proofs.EntryCutting.{falsum}
use Rattle.plan_cuts.proofs.Ends.{ends_of_fwd, fwd_of_ends}
use Rattle.plan_cuts.proofs.Paths.{both, either, le_of}
use Rattle.plan_cuts.proofs.Queue.{total_append}
use Rattle.plan_cuts.proofs.Sums.{differ}
use Rattle.reconstruct.specs.Entries.{holds_of_some, child_by, children_by}

or_true : (b : Bool) → (b || true) ≡ true
or_true true = refl
or_true false = refl

-- what a test tells of the states of a list
pub some_true : (states : List State) (test : State → Bool) (s : State) → Listed states s → test s ≡ true → holds_of_some states test ≡ true
some_true [] test s h e = absurd h
some_true (t ∷ states) test s (inl is) e = rw (ap test is ∙ e) refl
some_true (t ∷ states) test s (inr h) e = rw (some_true states test s h e) (or_true (test t))

pub some_there : (states : List State) (test : State → Bool) → holds_of_some states test ≡ true → (s : State) × Listed states s × (test s ≡ true)
some_there [] test h = absurd (falsum h)
some_there (t ∷ states) test h = elim (either (test t)) [
  | inl e ↦ (t, inl refl, e)
  | inr e ↦ let r = some_there states test (sym (ap (λ (b : Bool). b || holds_of_some states test) e) ∙ h) in (r.0, inr r.1, r.2)
]

pub some_false : (states : List State) (test : State → Bool) → ((s : State) → test s ≡ false) → holds_of_some states test ≡ false
some_false [] test h = refl
some_false (t ∷ states) test h = rw (h t) (some_false states test h)

-- where each operator costs something no list ends in one that costs nothing
no_zeros : (y : System) → ((k : ℕ) → k < y.operators → 0 < y.cost k) → (q : List ℕ) (s : State) → Ends y q s → zeros y q ≡ 0
no_zeros y costly [] s e = refl
no_zeros y costly (op ∷ q) s (t, l, rest) =
    let pos : 0 < y.cost op = costly op l.number in
    rw (differ (y.cost op) 0 (λ e. omega (arith, e, pos))) refl

all_append : {X : Type 0} (P : X → Type 0) (xs ys : List X) → AllByRecursion P xs → AllByRecursion P ys → AllByRecursion P (xs ++ ys)
all_append P [] ys a b = b
all_append P (x ∷ xs) ys a b = (a.0, all_append P xs ys a.1 b)

-- the children by operators, as lists
module _ (y : System) (front : ℕ → State → Bool) (has : State → Bool) (cost after : ℕ) (ops : List ℕ) where
  pub children_append : (ks js : List ℕ) → children_by y front has cost ops after (ks ++ js)
      ≡ children_by y front has cost ops after ks ++ children_by y front has cost ops after js
  children_append [] js = refl
  children_append (k ∷ ks) js =
      ap (λ (es : List PlainEntry). child_by y front has cost ops after k ++ es) (children_append ks js)
      ∙ sym (append_assoc (child_by y front has cost ops after k) (children_by y front has cost ops after ks) (children_by y front has cost ops after js))

  pub no_child_by : (k : ℕ) → ((s : State) → into y front has cost k s ≡ false) → child_by y front has cost ops after k ≡ []
  no_child_by k h = rw (some_false y.states (into y front has cost k) h) refl

  pub one_child_by : (k : ℕ) (has2 : State → Bool) → ((s : State) → has2 s ≡ into y front has cost k s) → (s : State)
      → Listed y.states s → has2 s ≡ true → child_by y front has cost ops after k ≡ Head has2 (cost - y.cost k) 0 (k ∷ ops) after ∷ []
  one_child_by k has2 same s listed h =
      rw (some_true y.states (into y front has cost k) s listed (sym (same s) ∙ h))
      (ap (λ (t : State → Bool). Head t (cost - y.cost k) 0 (k ∷ ops) after ∷ []) (λ i t. sym (same t) i))

-- how they are counted, that they fall, and that there is one where the walk needs one
module _ (y : System) (front back : ℕ → State → Bool) (has : State → Bool) (cost ring after : ℕ) (ops : List ℕ) where
  abbrev e : PlainEntry
  e = Head has cost ring ops after

  abbrev tested : ℕ → Bool
  tested k = holds_of_some y.states (into y front has cost k)

  reached : (f b k : ℕ) (s : State) → Tables y front back f b → cost < f → into y front has cost k s ≡ true → ReachedAt y (cost - y.cost k) s
  reached f b k s t below h =
      let p = both (leb (y.cost k) cost) (front (cost - y.cost k) s && at_some (y.step k s) has) h in
      let q = both (front (cost - y.cost k) s) (at_some (y.step k s) has) p.1 in
      t.front_sound (cost - y.cost k) s (omega (arith, below)) q.0

  none_in : (f b k : ℕ) → ListsReached y → Tables y front back f b → cost < f → tested k ≡ false → (s : State) → into y front has cost k s ≡ false
  none_in f b k lists t below none s = elim (either (into y front has cost k s)) [
    | inl h ↦
        let r = reached f b k s t below h in
        absurd (falsum (sym none ∙ some_true y.states (into y front has cost k) s (reached_listed y lists r.0 s r.1) h))
    | inr h ↦ h
  ]

  child_total : (f b k : ℕ) → ListsReached y → Tables y front back f b → cost < f → (p : List ℕ)
      → total y (child_by y front has cost ops after k) p ≡ child_hits y front back e p k
  child_total f b k lists t below p = elim (either (tested k)) [
    | inl is ↦ rw is (omega arith)
    | inr none ↦ rw none (sym (hits_none y (into y front has cost k) (cost - y.cost k) (begins y (k ∷ ops) after) 0 y.initial p
        (none_in f b k lists t below none)))
  ]

  pub children_total : (ks : List ℕ) (f b : ℕ) → ListsReached y → Tables y front back f b → cost < f → (p : List ℕ)
      → total y (children_by y front has cost ops after ks) p ≡ sum_list ks (child_hits y front back (Head has cost ring ops after) p)
  children_total [] f b lists t below p = refl
  children_total (k ∷ ks) f b lists t below p = omega (
    arith,
    total_append y (child_by y front has cost ops after k) (children_by y front has cost ops after ks) p,
    child_total f b k lists t below p,
    children_total ks f b lists t below p,
  )

  child_falls : (f b k : ℕ) → ((k : ℕ) → k < y.operators → 0 < y.cost k) → Tables y front back f b → cost < f → k < y.operators
      → tested k ≡ true → Falling y front back e (Head (into y front has cost k) (cost - y.cost k) 0 (k ∷ ops) after)
  child_falls f b k costly t below number is =
      let s = some_there y.states (into y front has cost k) is in
      let le : y.cost k ≤ cost = le_of (y.cost k) cost (both (leb (y.cost k) cost) (front (cost - y.cost k) s.0 && at_some (y.step k s.0) has) s.2).0 in
      let pos : 0 < y.cost k = costly k number in
      let g = ends_of_fwd y (cost - y.cost k) s.0 (reached f b k s.0 t below s.2) in
      let c : PlainEntry = Head (into y front has cost k) (cost - y.cost k) 0 (k ∷ ops) after in
      let child : IsChild y front back e k c = (
        (λ s. refl),
        refl,
        refl,
        refl,
        (s.0, s.2, (g.0, g.1, g.2, no_zeros y costly g.0 s.0 g.1)),
        (λ s n h q. omega arith),
        number,
      ) in
      ((k, child), child_lower y front back e k c child (omega arith) (inl (omega (arith, le, pos))), child_weight y front back e k c child)

  child_fall : (f b k : ℕ) → ((k : ℕ) → k < y.operators → 0 < y.cost k) → Tables y front back f b → cost < f → k < y.operators
      → AllByRecursion (Falling y front back e) (child_by y front has cost ops after k)
  child_fall f b k costly t below number = elim (either (tested k)) [
    | inl is ↦ rw is (child_falls f b k costly t below number is, tt)
    | inr none ↦ rw none tt
  ]

  pub children_fall : (ks : List ℕ) (f b : ℕ) → ((k : ℕ) → k < y.operators → 0 < y.cost k) → Tables y front back f b → cost < f
      → All (λ k. k < y.operators) ks
      → AllByRecursion (Falling y front back (Head has cost ring ops after)) (children_by y front has cost ops after ks)
  children_fall [] f b costly t below range = tt
  children_fall (k ∷ ks) f b costly t below range =
      all_append (Falling y front back e) (child_by y front has cost ops after k) (children_by y front has cost ops after ks)
      (child_fall f b k costly t below (All-head (λ k. k < y.operators) k ks range))
      (children_fall ks f b costly t below (All-tail (λ k. k < y.operators) k ks range))

  child_some : (k : ℕ) → ListsReached y → Fallable y front back e k → 0 < length (child_by y front has cost ops after k)
  child_some k lists h =
      let r = fwd_of_ends y h.3.0 h.1 h.3.1 in
      rw (some_true y.states (into y front has cost k) h.1 (reached_listed y lists r.0 h.1 r.1) h.2) (omega arith)

  pub children_some : (ks : List ℕ) → ListsReached y → (k : ℕ) → IsIn ks k → Fallable y front back (Head has cost ring ops after) k
      → 0 < length (children_by y front has cost ops after ks)
  children_some [] lists k i h = absurd i
  children_some (j ∷ ks) lists k (inl is) h =
      let one = child_some j lists (subst (λ (x : ℕ). Fallable y front back e x) (sym is) h) in
      omega (arith, length-append (child_by y front has cost ops after j) (children_by y front has cost ops after ks), one)
  children_some (j ∷ ks) lists k (inr i) h =
      omega (arith, length-append (child_by y front has cost ops after j) (children_by y front has cost ops after ks), children_some ks lists k i h)

  pub children_sofar : (ks : List ℕ) (f b : ℕ) → ListsReached y → ((k : ℕ) → k < y.operators → 0 < y.cost k)
      → Tables y front back f b → cost < f → All (λ k. k < y.operators) ks
      → Sofar y front back (Head has cost ring ops after) ks [] (children_by y front has cost ops after ks)
  children_sofar ks f b lists costly t below range = record {
    counts = λ p. omega (arith, children_total ks f b lists t below p);
    each = tt;
    each_falls = children_fall ks f b costly t below range;
    falls = λ k i h. children_some ks lists k i h;
  }
