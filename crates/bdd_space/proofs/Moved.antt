-- A space whose table was collected is the space that it was.
use Rattle.std.proofs.Common.{◌≡◌, ℕ, zero, suc, ◌+◌, ◌-◌, ◌<◌, ◌≤◌, ◌⊎◌, inl, inr, List, [], ◌∷◌, ◌++◌, map, length, get_or, drop, IfSome, is_some, refl, sym, ◌∙◌, ap, subst, arith}
use Rattle.std.proofs.lemmas.Bool.{cases_lt}
use Rattle.std.proofs.lemmas.List.{ext_get_or, get_or-take, get_or-drop, length-take-le, length-drop, get_or_past}
use Rattle.std.proofs.lemmas.List.FromFn.{length-range_with_len}
use Rattle.std.specs.List.{All, slice_range}
use Rattle.task_system.specs.System.{State}
use Rattle.bdd_table.specs.declared.node.Node.{Node}
use Rattle.bdd_table.specs.Diagram.{means, IsReduced}
use Rattle.bdd_table.specs.Collected.{IsMoved, Reaches, AreReached}
use Rattle.bdd_table.proofs.Canonical.{canonical}
use Rattle.var_order.specs.Layout.{Layout}
use Rattle.space_api.specs.Frames.{Stays}
use Rattle.space_api.specs.Tidied.{Collected}
use Rattle.trans_merge.specs.declared.relations.OperatorRelations.{OperatorRelations}
use Rattle.trans_merge.specs.Relations.{AreRelationsOf}
use Rattle.trans_merge.specs.Roots.{roots_of as relation_roots, AreMovedTo}
use Rattle.bdd_space.specs.declared.slots.Slot.{Slot}
use Rattle.bdd_space.specs.declared.slots.Slot.TheVariants.{Holds, Free}
use Rattle.bdd_space.specs.declared.symbolic.Own.{Own}
use Rattle.bdd_space.specs.Slots.{id_of, root_of, with_root, AreSlotsMoved}
use Rattle.bdd_space.specs.Members.{IsKnownSet, MeansAs}
use Rattle.bdd_space.specs.Symbolic.{Symbolic, in_set, OwnAre, IsSpace, symbolic_roots}
use Rattle.bdd_space.specs.Seen.{seen, Needs}
use Rattle.bdd_space.proofs.Having.{alike_has, alike_set, alike_those, false_means}
use Rattle.bdd_space.proofs.Needing.{node_ids, all_reached}

moved_means : (old new : List Node) (id place : ℕ) → IsMoved old new id place → MeansAs old id new place
moved_means old new id place m = record { known = m.known; meaning = m.meaning }

-- the roots of a space

three_more : (a b c : ℕ) (xs : List ℕ) (i : ℕ) → get_or (a ∷ b ∷ c ∷ xs) (3 + i) 0 ≡ get_or xs i 0
three_more a b c xs i = ap (λ (k : ℕ). get_or (a ∷ b ∷ c ∷ xs) k 0) (let e : 3 + i ≡ suc (suc (suc i)) = omega arith in e)

after : (xs ys : List ℕ) (i : ℕ) → get_or (xs ++ ys) (length xs + i) 0 ≡ get_or ys i 0
after [] ys i = ap (λ (k : ℕ). get_or ys k 0) (let e : 0 + i ≡ i = omega arith in e)
after (x ∷ xs) ys i = ap (λ (k : ℕ). get_or (x ∷ (xs ++ ys)) k 0) (let e : suc (length xs) + i ≡ suc (length xs + i) = omega arith in e) ∙ after xs ys i

before : (xs ys : List ℕ) (i : ℕ) → i < length xs → get_or (xs ++ ys) i 0 ≡ get_or xs i 0
before [] ys i lt = absurd (omega (arith, lt))
before (x ∷ xs) ys zero lt = refl
before (x ∷ xs) ys (suc i) lt = before xs ys i (omega (arith, lt))

mapped : (slots : List Slot) (a : ℕ) → get_or (map root_of slots) a 0 ≡ root_of (get_or slots a (Free 0))
mapped [] a = refl
mapped (x ∷ slots) zero = refl
mapped (x ∷ slots) (suc a) = mapped slots a

mapped_length : (slots : List Slot) → length (map root_of slots) ≡ length slots
mapped_length [] = refl
mapped_length (x ∷ slots) = ap suc (mapped_length slots)

joined_length : (xs ys : List ℕ) → length (xs ++ ys) ≡ length xs + length ys
joined_length [] ys = (let e : length ys ≡ 0 + length ys = omega arith in e)
joined_length (x ∷ xs) ys = ap suc (joined_length xs ys) ∙ (let e : suc (length xs + length ys) ≡ suc (length xs) + length ys = omega arith in e)

module _ (e : Symbolic) where
  -- how many roots there are
  pub roots_length : length (symbolic_roots e) ≡ 3 + (length (relation_roots e.relations) + length e.sets)
  roots_length =
      let a = joined_length (relation_roots e.relations) (map root_of e.sets) in
      let b = mapped_length e.sets in
      omega (arith, a, b)

  -- those of the relations stand from the fourth on
  relation_root : (i : ℕ) → i < length (relation_roots e.relations) → get_or (symbolic_roots e) (3 + i) 0 ≡ get_or (relation_roots e.relations) i 0
  relation_root i lt = three_more e.own.all e.own.start e.own.goals (relation_roots e.relations ++ map root_of e.sets)
      i ∙ before (relation_roots e.relations) (map root_of e.sets) i lt

  -- and behind them those of the sets
  set_root : (a : ℕ) → get_or (symbolic_roots e) (3 + length (relation_roots e.relations) + a) 0 ≡ root_of (get_or e.sets a (Free 0))
  set_root a =
      ap (λ (k : ℕ). get_or (symbolic_roots e) k 0) (let h : 3 + length (relation_roots e.relations) + a ≡ 3
      + (length (relation_roots e.relations) + a) = omega arith in h)
      ∙ three_more e.own.all e.own.start e.own.goals (relation_roots e.relations ++ map root_of e.sets) (length (relation_roots e.relations) + a)
      ∙ after (relation_roots e.relations) (map root_of e.sets) a
      ∙ mapped e.sets a

slot_known : (nodes : List Node) (o : Layout) (x : Slot) → 2 ≤ length nodes → IfSome (id_of x) (IsKnownSet o nodes) → root_of x < length nodes
slot_known nodes o (Holds id) two k = k.known
slot_known nodes o (Free next) two k = omega (arith, two)

-- each root is an Id of the table
pub roots_known : (e : Symbolic) (start : List ℕ) → IsSpace e start
    → All (λ id. id < length e.nodes) (relation_roots e.relations) → (i : ℕ) → i < length (symbolic_roots e)
    → get_or (symbolic_roots e) i 0 < length e.nodes
roots_known e start is relations zero lt = is.own.all.known
roots_known e start is relations (suc zero) lt = is.own.start.known
roots_known e start is relations (suc (suc zero)) lt = is.own.goals.known
roots_known e start is relations (suc (suc (suc i))) lt = go (cases_lt i (length (relation_roots e.relations)))
  where
    go : (i < length (relation_roots e.relations)) ⊎ (length (relation_roots e.relations) ≤ i)
        → get_or (relation_roots e.relations ++ map root_of e.sets) i 0 < length e.nodes
    go (inl less) = subst (λ (x : ℕ). x < length e.nodes) (sym (before (relation_roots e.relations) (map root_of e.sets) i less)) (relations i 0 less)
    go (inr more) =
        let a = i - length (relation_roots e.relations) in
        let same : length (relation_roots e.relations) + a ≡ i = omega (arith, more) in
        let two = is.reduced in
        subst (λ (x : ℕ). x < length e.nodes)
        (sym (ap (λ (k : ℕ). get_or (relation_roots e.relations ++ map root_of e.sets) k 0) (sym same)
        ∙ after (relation_roots e.relations) (map root_of e.sets) a ∙ mapped e.sets a))
        (slot_known e.nodes e.order (get_or e.sets a (Free 0)) two.constants (is.sets a))

-- a place of a set, moved

record SlotMoved (old new : List Node) (x y : Slot) : Type 0 where
  pub place : ℕ
  pub is : y ≡ with_root x place
  pub means : MeansAs old (root_of x) new place

slot_there : (old new : List Node) (x y : Slot) → SlotMoved old new x y → is_some (id_of y) ≡ is_some (id_of x)
slot_there old new x y m = ap (λ (z : Slot). is_some (id_of z)) m.is ∙ same x m.place
  where
    same : (x : Slot) (p : ℕ) → is_some (id_of (with_root x p)) ≡ is_some (id_of x)
    same (Holds id) p = refl
    same (Free next) p = refl

slot_set : (o : Layout) (old new : List Node) (x y : Slot) → SlotMoved old new x y → IfSome (id_of x) (IsKnownSet o old) → IfSome (id_of y) (IsKnownSet o new)
slot_set o old new x y m h = subst (λ (z : Slot). IfSome (id_of z) (IsKnownSet o new)) (sym m.is) (same x m.place m.means h)
  where
    same : (x : Slot) (p : ℕ) → MeansAs old (root_of x) new p → IfSome (id_of x) (IsKnownSet o old) → IfSome (id_of (with_root x p)) (IsKnownSet o new)
    same (Holds id) p means h = alike_set o old new id p means h
    same (Free next) p means h = tt

slot_has : (o : Layout) (old new : List Node) (x y : Slot) (s : State) → SlotMoved old new x y → in_set o new (id_of y) s ≡ in_set o old (id_of x) s
slot_has o old new x y s m = ap (λ (z : Slot). in_set o new (id_of z) s) m.is ∙ same x m.place m.means
  where
    same : (x : Slot) (p : ℕ) → MeansAs old (root_of x) new p → in_set o new (id_of (with_root x p)) s ≡ in_set o old (id_of x) s
    same (Holds id) p means = alike_has o old new id p s means
    same (Free next) p means = refl

false_moved : (old new : List Node) → IsReduced new → MeansAs old 0 new 0
false_moved old new r = record { known = (let two = r.constants in omega (arith, two)); meaning = λ b. false_means new b ∙ sym (false_means old b) }

-- false is moved to false
false_place : (old new : List Node) (p : ℕ) → IsReduced new → MeansAs old 0 new p → p ≡ 0
false_place old new p r m = canonical new r p 0 m.known (let two = r.constants in omega (arith, two))
    (λ b. m.meaning b ∙ false_means old b ∙ sym (false_means new b))

slot_root : (old new : List Node) (x : Slot) (p : ℕ) → IsReduced new → MeansAs old (root_of x) new p → root_of (with_root x p) ≡ p
slot_root old new (Holds id) p r m = refl
slot_root old new (Free next) p r m = sym (false_place old new p r m)

-- a space, collected

abbrev pub own_at : List ℕ → Own
own_at places = record { all = get_or places 0 0; start = get_or places 1 0; goals = get_or places 2 0 }

abbrev pub collected : Symbolic → List Node → List ℕ → OperatorRelations → List Slot → ℕ → Symbolic
collected e now places relations slots n = record {
  task = e.task;
  rules = e.rules;
  order = e.order;
  nodes = now;
  own = own_at places;
  relations = relations;
  steps = e.steps;
  sets = slots;
  last = n;
}

abbrev pub set_from : Symbolic → ℕ
set_from e = 3 + length (relation_roots e.relations)

module _ (e : Symbolic) (start : List ℕ) (now : List Node) (places : List ℕ) (relations : OperatorRelations) (slots : List Slot) (n : ℕ)
    (i : IsSpace e start) (r : IsReduced now) (as_long : length places ≡ length (symbolic_roots e))
    (moved : (k : ℕ) → k < length (symbolic_roots e) → IsMoved e.nodes now (get_or (symbolic_roots e) k 0) (get_or places k 0))
    (sets : AreSlotsMoved e.sets places (set_from e) slots) where
  root_means : (k : ℕ) → k < length (symbolic_roots e) → MeansAs e.nodes (get_or (symbolic_roots e) k 0) now (get_or places k 0)
  root_means k lt = moved_means e.nodes now (get_or (symbolic_roots e) k 0) (get_or places k 0) (moved k lt)

  many : 3 ≤ length (symbolic_roots e)
  many = let c = roots_length e in omega (arith, c)

  own_moved : OwnAre e.task e.order now (own_at places)
  own_moved = record {
    all = alike_those e.order e.nodes now _ e.own.all (get_or places 0 0) (root_means 0 (let m = many in omega (arith, m))) i.own.all;
    start = alike_those e.order e.nodes now _ e.own.start (get_or places 1 0) (root_means 1 (let m = many in omega (arith, m))) i.own.start;
    goals = alike_those e.order e.nodes now _ e.own.goals (get_or places 2 0) (root_means 2 (let m = many in omega (arith, m))) i.own.goals;
  }

  pub relations_to : AreMovedTo e.nodes now (relation_roots e.relations) places 3
  relations_to k lt =
      let c = roots_length e in
      subst (λ (x : ℕ). IsMoved e.nodes now x (get_or places (3 + k) 0)) (relation_root e k lt) (moved (3 + k) (omega (arith, c, lt)))

  set_place : (a : ℕ) → a < length e.sets → MeansAs e.nodes (root_of (get_or e.sets a (Free 0))) now (get_or places (set_from e + a) 0)
  set_place a lt =
      let c = roots_length e in
      subst (λ (x : ℕ). MeansAs e.nodes x now (get_or places (set_from e + a) 0)) (set_root e a) (root_means (set_from e + a) (omega (arith, c, lt)))

  slot_moved : (a : ℕ) → SlotMoved e.nodes now (get_or e.sets a (Free 0)) (get_or slots a (Free 0))
  slot_moved a = elim (cases_lt a (length e.sets)) [
    | inl lt ↦ record { place = get_or places (set_from e + a) 0; is = sets.below a lt; means = set_place a lt }
    | inr past ↦ (
        let none : get_or e.sets a (Free 0) ≡ Free 0 = get_or_past e.sets a (Free 0) past in
        record {
          place = 0;
          is = sets.others a past ∙ none ∙ ap (λ (x : Slot). with_root x 0) (sym none);
          means = subst (λ (x : Slot). MeansAs e.nodes (root_of x) now 0) (sym none) (false_moved e.nodes now r);
        })
  ]

  pub space_collected : AreRelationsOf e.task e.order now relations → IsSpace (collected e now places relations slots n) start
  space_collected are = record {
    fits = i.fits;
    order = i.order;
    reduced = r;
    own = own_moved;
    relations = are;
    sets = λ a. slot_set e.order e.nodes now (get_or e.sets a (Free 0)) (get_or slots a (Free 0)) (slot_moved a) (i.sets a);
    steps = i.steps;
    rules = i.rules;
    initial = i.initial;
  }

  pub stays_collected : Stays (seen e) (seen (collected e now places relations slots n))
  stays_collected = record {
    kept = record {
      system = refl;
      valid = λ a h. slot_there e.nodes now (get_or e.sets a (Free 0)) (get_or slots a (Free 0)) (slot_moved a) ∙ h;
      same = λ a h s. slot_has e.order e.nodes now (get_or e.sets a (Free 0)) (get_or slots a (Free 0)) s (slot_moved a);
    };
    only = λ a h. sym (slot_there e.nodes now (get_or e.sets a (Free 0)) (get_or slots a (Free 0)) (slot_moved a)) ∙ h;
  }

  -- the roots are where they were moved to

  module _ (taken : relation_roots relations ≡ slice_range places 3 (3 + length (relation_roots e.relations))) where
    taken_length : length (relation_roots relations) ≡ length (relation_roots e.relations)
    taken_length =
        let c = roots_length e in
        let d = length-drop 3 places in
        let m : 3 + length (relation_roots e.relations) - 3 ≡ length (relation_roots e.relations) = omega arith in
        ap length taken ∙ length-take-le (3 + length (relation_roots e.relations) - 3) (drop 3 places) (omega (arith, c, d, as_long)) ∙ m

    taken_at : (k : ℕ) → k < length (relation_roots e.relations) → get_or (relation_roots relations) k 0 ≡ get_or places (3 + k) 0
    taken_at k lt =
        ap (λ (xs : List ℕ). get_or xs k 0) taken
        ∙ get_or-take (3 + length (relation_roots e.relations) - 3) (drop 3 places) k 0 (omega (arith, lt))
        ∙ get_or-drop 3 places k 0

    set_at_place : (a : ℕ) → a < length e.sets → root_of (get_or slots a (Free 0)) ≡ get_or places (set_from e + a) 0
    set_at_place a lt = ap root_of (sets.below a lt) ∙ slot_root e.nodes now (get_or e.sets a (Free 0)) (get_or places (set_from e + a) 0) r (set_place a lt)

    same_length : length (symbolic_roots (collected e now places relations slots n)) ≡ length places
    same_length =
        let a = roots_length (collected e now places relations slots n) in
        let b = roots_length e in
        let c = taken_length in
        let d = sets.as_long in
        omega (arith, a, b, c, d, as_long)

    rest_at : (k : ℕ) → 3 + k < length places → get_or (relation_roots relations ++ map root_of slots) k 0 ≡ get_or places (3 + k) 0
    rest_at k lt = elim (cases_lt k (length (relation_roots relations))) [
      | inl less ↦ before (relation_roots relations) (map root_of slots) k less ∙ taken_at k (let c = taken_length in omega (arith, less, c))
      | inr more ↦ (
          let c = taken_length in
          let b = roots_length e in
          let a = k - length (relation_roots relations) in
          let back : length (relation_roots relations) + a ≡ k = omega (arith, more) in
          let to : set_from e + a ≡ 3 + k = omega (arith, more, c) in
          let inside : a < length e.sets = omega (arith, more, c, b, lt, as_long) in
          ap (λ (j : ℕ). get_or (relation_roots relations ++ map root_of slots) j 0) (sym back)
          ∙ after (relation_roots relations) (map root_of slots) a
          ∙ mapped slots a
          ∙ set_at_place a inside
          ∙ ap (λ (j : ℕ). get_or places j 0) to)
    ]

    roots_at : (k : ℕ) → k < length places → get_or (symbolic_roots (collected e now places relations slots n)) k 0 ≡ get_or places k 0
    roots_at zero lt = refl
    roots_at (suc zero) lt = refl
    roots_at (suc (suc zero)) lt = refl
    roots_at (suc (suc (suc k))) lt =
        let to : 3 + k ≡ suc (suc (suc k)) = omega arith in
        rest_at k (omega (arith, lt)) ∙ ap (λ (j : ℕ). get_or places j 0) to

    roots_are : symbolic_roots (collected e now places relations slots n) ≡ places
    roots_are = ext_get_or 0 (symbolic_roots (collected e now places relations slots n)) places same_length
        (λ k lt. roots_at k (let c = same_length in omega (arith, lt, c)))

    places_known : (k : ℕ) → k < length places → get_or places k 0 < length now
    places_known k lt = (let m = moved k (omega (arith, lt, as_long)) in m.known)

    -- what is held is what the space needs
    pub is_collected : n + 2 ≡ length now → ((id : ℕ) → 2 ≤ id → id < length now → Reaches now places id)
        → ((ids : List ℕ) → AreReached e.nodes (symbolic_roots e) ids → length now ≡ length ids + 2)
        → Collected (Needs e) (Needs (collected e now places relations slots n)) (seen e) (seen (collected e now places relations slots n))
    is_collected held exact count = record {
      needed = λ m (ids, reached, is). (let c = count ids reached in omega (arith, c, is));
      needs = (
        node_ids now,
        subst (λ (xs : List ℕ). AreReached now xs (node_ids now)) (sym roots_are) (all_reached now places r places_known exact),
        sym (length-range_with_len 2 (length now - 2)),
      );
      last = omega (arith, held);
    }
