-- Nodes that are moved to another list.
use Rattle.std.proofs.Common.{◌≡◌, ℕ, ◌+◌, ◌<◌, ◌≤◌, ◌||◌, Bool, true, false, cond, inl, inr, List, [], ◌∷◌, ◌++◌, length, refl, sym, ◌∙◌, ap, subst, arith, get_or-append-add, length-append, nat_lt, slice_index, ltb-true, true≢false}
use Rattle.std.proofs.lemmas.List.{get_or_append_left}
use Rattle.bdd_table.specs.declared.node.Node.{Node}
use Rattle.bdd_table.specs.Diagram.{Bits, node_of, at, level_of, means, IsInner, IsReduced, GrowsTable}
use Rattle.bdd_table.specs.Collected.{IsMoved, IsPlaced, AreMoved, IsClosed, is_marked_id, is_kept}
use Rattle.bdd_table.proofs.Meaning.{split, means_chosen, means_grown, means_false, means_true}
use Rattle.bdd_table.proofs.Canonical.{canonical, constant_level, level_bound, order}
use Rattle.bdd_table.proofs.Adding.{at_old, at_last, length_pushed, reduced_push, node_meaning}

pub moved_grown : (old before new : List Node) → IsReduced before → GrowsTable before new → (id place : ℕ)
    → IsMoved old before id place → IsMoved old new id place
moved_grown old before new r g id place m = record {
  known = omega (arith, m.known, g.longer);
  level = ap (λ (n : Node). n.level) (g.same place m.known) ∙ m.level;
  meaning = λ b. means_grown before r new g b place m.known ∙ m.meaning b;
}

constants_reduced : IsReduced (node_of 4294967295 0 0 ∷ node_of 4294967295 1 1 ∷ [])
constants_reduced = record {
  constants = omega arith;
  of_false = refl;
  of_true = refl;
  inner = λ id two known. absurd (omega (arith, two, known));
  unique = λ i j hi hj e. elim (split i) [
    | inl x ↦ elim (split j) [
      | inl y ↦ x ∙ sym y
      | inr (inl y) ↦ absurd (omega (arith, sym (ap lo_at x) ∙ ap (λ (n : Node). n.lo) e ∙ ap lo_at y))
      | inr (inr y) ↦ absurd (omega (arith, y, hj))
    ]
    | inr (inl x) ↦ elim (split j) [
      | inl y ↦ absurd (omega (arith, sym (ap lo_at x) ∙ ap (λ (n : Node). n.lo) e ∙ ap lo_at y))
      | inr (inl y) ↦ x ∙ sym y
      | inr (inr y) ↦ absurd (omega (arith, y, hj))
    ]
    | inr (inr x) ↦ absurd (omega (arith, x, hi))
  ];
}
  where
    lo_at : ℕ → ℕ
    lo_at i = (at (node_of 4294967295 0 0 ∷ node_of 4294967295 1 1 ∷ []) i).lo

-- the constants have their own places
pub start_moved : (old new : List Node) (marks : List Bool) (places : List ℕ) → IsReduced old
    → new ≡ node_of 4294967295 0 0 ∷ node_of 4294967295 1 1 ∷ [] → places ≡ 0 ∷ 1 ∷ []
    → AreMoved old marks new places 2
start_moved old new marks places ro en e = record {
  reduced = rn;
  count = ap (λ (l : List ℕ). length l) e;
  moved = λ id h kept. elim (split id) [
    | inl z ↦ subst (λ k. IsMoved old new k (slice_index places k)) (sym z) (subst (λ p. IsMoved old new 0 p) (sym first) false_moved)
    | inr (inl z) ↦ subst (λ k. IsMoved old new k (slice_index places k)) (sym z) (subst (λ p. IsMoved old new 1 p) (sym second) true_moved)
    | inr (inr two) ↦ absurd (omega arith)
  ];
  lo_moved = λ id h kept. elim (split id) [
    | inl z ↦ subst (λ k. (at new (slice_index places k)).lo ≡ slice_index places (at old k).lo) (sym z)
        (ap (λ p. (at new p).lo) first ∙ ap (λ (n : Node). n.lo) rn.of_false ∙ sym first ∙ sym (ap (λ (n : Node). slice_index places n.lo) ro.of_false))
    | inr (inl z) ↦ subst (λ k. (at new (slice_index places k)).lo ≡ slice_index places (at old k).lo) (sym z)
        (ap (λ p. (at new p).lo) second ∙ ap (λ (n : Node). n.lo) rn.of_true ∙ sym second ∙ sym (ap (λ (n : Node). slice_index places n.lo) ro.of_true))
    | inr (inr two) ↦ absurd (omega arith)
  ];
  hi_moved = λ id h kept. elim (split id) [
    | inl z ↦ subst (λ k. (at new (slice_index places k)).hi ≡ slice_index places (at old k).hi) (sym z)
        (ap (λ p. (at new p).hi) first ∙ ap (λ (n : Node). n.hi) rn.of_false ∙ sym first ∙ sym (ap (λ (n : Node). slice_index places n.hi) ro.of_false))
    | inr (inl z) ↦ subst (λ k. (at new (slice_index places k)).hi ≡ slice_index places (at old k).hi) (sym z)
        (ap (λ p. (at new p).hi) second ∙ ap (λ (n : Node). n.hi) rn.of_true ∙ sym second ∙ sym (ap (λ (n : Node). slice_index places n.hi) ro.of_true))
    | inr (inr two) ↦ absurd (omega arith)
  ];
  only = λ place two h. absurd (omega (arith, two, h, ap (λ (l : List Node). length l) en));
}
  where
    rn : IsReduced new
    rn = subst IsReduced (sym en) constants_reduced

    first : slice_index places 0 ≡ 0
    first = ap (λ l. slice_index l 0) e

    second : slice_index places 1 ≡ 1
    second = ap (λ l. slice_index l 1) e

    false_moved : IsMoved old new 0 0
    false_moved = record {
      known = omega (arith, rn.constants);
      level = constant_level new rn 0 (omega arith)
          ∙ sym (constant_level old ro 0 (omega arith));
      meaning = λ b. means_false new rn b
          ∙ sym (means_false old ro b);
    }

    true_moved : IsMoved old new 1 1
    true_moved = record {
      known = omega (arith, rn.constants);
      level = constant_level new rn 1 (omega arith)
          ∙ sym (constant_level old ro 1 (omega arith));
      meaning = λ b. means_true new rn b
          ∙ sym (means_true old ro b);
    }

module _ (old before new : List Node) (marks : List Bool) (places after : List ℕ) (n place : ℕ) (ro : IsReduced old)
    (in_range : n < length old) (was : AreMoved old marks before places n)
    (g : GrowsTable before new) (rn : IsReduced new)
    (e : after ≡ places ++ place ∷ []) (two : 2 ≤ n) (here : is_marked_id marks n ≡ true → IsPlaced old before new places
    n place) (none : is_marked_id marks n ≡ false → new ≡ before) where
  last : slice_index after n ≡ place
  last = let c : length places + 0 ≡ n = omega (arith, was.count) in
      ap (λ l. slice_index l n) e ∙ ap (slice_index (places ++ place ∷ [])) (sym c) ∙ get_or-append-add places (place ∷ []) 0 0

  stays : (id : ℕ) → id < n → slice_index after id ≡ slice_index places id
  stays id h = ap (λ l. slice_index l id) e ∙ get_or_append_left places (place ∷ []) 0 id (omega (arith, was.count))

  marked : is_kept marks n ≡ true → is_marked_id marks n ≡ true
  marked k = (elim (nat_lt n 2) as (λ t. nat_lt n 2 ≡ t → (t || is_marked_id marks n) ≡ true → is_marked_id marks n ≡ true) [
    | true ↦ λ t m. let low = ltb-true n 2 t in absurd (omega arith)
    | false ↦ λ t m. m
  ]) refl k

  child_lo : (id : ℕ) → id < length old → (at old id).lo ≤ id
  child_lo id h = elim (split id) [
    | inl z ↦ omega (arith, z, ap (λ k. (at old k).lo) z, ap (λ (m : Node). m.lo) ro.of_false)
    | inr (inl z) ↦ omega (arith, z, ap (λ k. (at old k).lo) z, ap (λ (m : Node). m.lo) ro.of_true)
    | inr (inr inner) ↦ let i = ro.inner id inner h in omega (arith, i.lo_before)
  ]

  child_hi : (id : ℕ) → id < length old → (at old id).hi ≤ id
  child_hi id h = elim (split id) [
    | inl z ↦ omega (arith, z, ap (λ k. (at old k).hi) z, ap (λ (m : Node). m.hi) ro.of_false)
    | inr (inl z) ↦ omega (arith, z, ap (λ k. (at old k).hi) z, ap (λ (m : Node). m.hi) ro.of_true)
    | inr (inr inner) ↦ let i = ro.inner id inner h in omega (arith, i.hi_before)
  ]

  old_lo : (id : ℕ) → id < n → is_kept marks id ≡ true → (at new (slice_index after id)).lo ≡ slice_index after (at old id).lo
  old_lo id h kept = ap (λ p. (at new p).lo) (stays id h) ∙ ap (λ (m : Node). m.lo) (g.same (slice_index places id) (was.moved id h kept).known)
      ∙ was.lo_moved id h kept ∙ sym (stays (at old id).lo (omega (arith, h, child_lo id (omega (arith, h, in_range)))))

  old_hi : (id : ℕ) → id < n → is_kept marks id ≡ true → (at new (slice_index after id)).hi ≡ slice_index after (at old id).hi
  old_hi id h kept = ap (λ p. (at new p).hi) (stays id h) ∙ ap (λ (m : Node). m.hi) (g.same (slice_index places id) (was.moved id h kept).known)
      ∙ was.hi_moved id h kept ∙ sym (stays (at old id).hi (omega (arith, h, child_hi id (omega (arith, h, in_range)))))

  new_lo : is_marked_id marks n ≡ true → (at new (slice_index after n)).lo ≡ slice_index after (at old n).lo
  new_lo m = ap (λ p. (at new p).lo) last ∙ ap (λ (k : Node). k.lo) (here m).is
      ∙ sym (stays (at old n).lo (let i = ro.inner n two in_range in i.lo_before))

  new_hi : is_marked_id marks n ≡ true → (at new (slice_index after n)).hi ≡ slice_index after (at old n).hi
  new_hi m = ap (λ p. (at new p).hi) last ∙ ap (λ (k : Node). k.hi) (here m).is
      ∙ sym (stays (at old n).hi (let i = ro.inner n two in_range in i.hi_before))

  new_only : (p : ℕ) → 2 ≤ p → p < length new → (id : ℕ) × (2 ≤ id) × (id < n + 1) × (is_marked_id marks id ≡ true) × (slice_index after id ≡ p)
  new_only p inner h = elim (order p (length before)) [
    | inl a ↦ older a
    | inr (inl a) ↦ newer (omega arith)
    | inr (inr a) ↦ newer (omega arith)
  ]
    where
      older : p < length before → (id : ℕ) × (2 ≤ id) × (id < n + 1) × (is_marked_id marks id ≡ true) × (slice_index after id ≡ p)
      older a = let w = was.only p inner a in (w.0, w.1, omega (arith, w.2), w.3, stays w.0 w.2 ∙ w.4)

      newer : length before ≤ p → (id : ℕ) × (2 ≤ id) × (id < n + 1) × (is_marked_id marks id ≡ true) × (slice_index after id ≡ p)
      newer a = (elim (is_marked_id marks n) as (λ t. is_marked_id marks n ≡ t → (id : ℕ) × (2 ≤ id) × (id < n + 1)
          × (is_marked_id marks id ≡ true) × (slice_index after id ≡ p)) [
            | true ↦ λ m. (n, two, omega arith, m, last ∙ sym ((here m).only p a h))
            | false ↦ λ m. absurd (omega (arith, a, h, ap (λ (l : List Node). length l) (none m)))
          ]) refl

  pub step_moved : AreMoved old marks new after (n + 1)
  step_moved = record {
    reduced = rn;
    count = ap (λ (l : List ℕ). length l) e ∙ omega (arith, length-append places (place ∷ []), was.count);
    moved = λ id h kept. elim (order id n) [
      | inl a ↦ subst (λ p. IsMoved old new id p) (sym (stays id a)) (moved_grown old before new was.reduced g id _ (was.moved id a kept))
      | inr (inl s) ↦ subst (λ k. IsMoved old new k (slice_index after k)) (sym s)
          (subst (λ p. IsMoved old new n p) (sym last) (here
          (marked (subst (λ k. is_kept marks k ≡ true) s kept))).moved)
      | inr (inr a) ↦ absurd (omega arith)
    ];
    lo_moved = λ id h kept. elim (order id n) [
      | inl a ↦ old_lo id a kept
      | inr (inl s) ↦ subst (λ k. (at new (slice_index after k)).lo ≡ slice_index after (at old k).lo) (sym s)
          (new_lo (marked (subst (λ k. is_kept marks k ≡ true) s kept)))
      | inr (inr a) ↦ absurd (omega arith)
    ];
    hi_moved = λ id h kept. elim (order id n) [
      | inl a ↦ old_hi id a kept
      | inr (inl s) ↦ subst (λ k. (at new (slice_index after k)).hi ≡ slice_index after (at old k).hi) (sym s)
          (new_hi (marked (subst (λ k. is_kept marks k ≡ true) s kept)))
      | inr (inr a) ↦ absurd (omega arith)
    ];
    only = new_only;
  }

kept_by : {marked : Bool} (low : Bool) → marked ≡ true → (low || marked) ≡ true
kept_by true e = refl
kept_by false e = e

-- the children of a marked node have their places
pub lo_placed : (old before : List Node) (marks : List Bool) (places : List ℕ) (n : ℕ) → IsReduced old
    → IsClosed old marks → 2 ≤ n → n < length old → AreMoved old marks before places n → is_marked_id marks n ≡ true
    → IsMoved old before (at old n).lo (slice_index places (at old n).lo)
lo_placed old before marks places n ro closed two known was m = let i = ro.inner n two known in
    was.moved (at old n).lo i.lo_before (closed.lo_kept n two known (kept_by (nat_lt n 2) m))

pub hi_placed : (old before : List Node) (marks : List Bool) (places : List ℕ) (n : ℕ) → IsReduced old
    → IsClosed old marks → 2 ≤ n → n < length old → AreMoved old marks before places n → is_marked_id marks n ≡ true
    → IsMoved old before (at old n).hi (slice_index places (at old n).hi)
hi_placed old before marks places n ro closed two known was m = let i = ro.inner n two known in
    was.moved (at old n).hi i.hi_before (closed.hi_kept n two known (kept_by (nat_lt n 2) m))

-- A marked node goes last, with the places of its children.
module _ (old before : List Node) (marks : List Bool) (places : List ℕ) (n : ℕ) (ro : IsReduced old) (closed : IsClosed old marks)
    (two : 2 ≤ n) (known : n < length old) (was : AreMoved old marks before places n) (m : is_marked_id marks n ≡ true) where
  abbrev lo : ℕ
  lo = slice_index places (at old n).lo

  abbrev hi : ℕ
  hi = slice_index places (at old n).hi

  abbrev pub moved_node : Node
  moved_node = node_of (level_of old n) lo hi

  i : IsInner old n
  i = ro.inner n two known

  lo_moved : IsMoved old before (at old n).lo lo
  lo_moved = lo_placed old before marks places n ro closed two known was m

  hi_moved : IsMoved old before (at old n).hi hi
  hi_moved = hi_placed old before marks places n ro closed two known was m

  differ : lo ≡ hi → ⊥
  differ e = i.differ (canonical old ro (at old n).lo (at old n).hi (omega (arith, i.lo_before)) (omega (arith, i.hi_before))
      (λ b. sym (lo_moved.meaning b) ∙ ap (λ k. means before k b) e ∙ hi_moved.meaning b))

  lo_below : level_of old n < level_of before lo
  lo_below = rw lo_moved.level i.lo_below

  hi_below : level_of old n < level_of before hi
  hi_below = rw hi_moved.level i.hi_below

  out : (b : Bits) (v : Bool) → cond v (means before hi b) (means before lo b) ≡ means old (cond v (at old n).hi (at old n).lo) b
  out b true = hi_moved.meaning b
  out b false = lo_moved.meaning b

  means_same : (nodes : List Node) → IsReduced nodes → GrowsTable before nodes → (p : ℕ) → p < length nodes → at nodes p ≡ moved_node
      → (b : Bits) → means nodes p b ≡ means old n b
  means_same nodes r g p there is b = node_meaning nodes r (level_of old n) lo hi p there is b
      ∙ (λ k. cond (b (level_of old n)) (means_grown before was.reduced nodes g b hi hi_moved.known k) (means_grown before was.reduced nodes g b lo lo_moved.known k))
      ∙ out b (b (level_of old n)) ∙ sym (means_chosen old ro b n known)

  as_it_was : GrowsTable before before
  as_it_was = record { longer = omega arith; same = λ p h. refl }

  absent : (p : ℕ) → p < length before → at before p ≡ moved_node → ⊥
  absent p h is = elim (split p) [
    | inl z ↦ constant (omega (arith, z))
    | inr (inl z) ↦ constant (omega (arith, z))
    | inr (inr inner) ↦
        let w = was.only p inner h in
        let same = canonical old ro w.0 n (omega (arith, w.2, known)) known (λ b. sym ((was.moved w.0 w.2 (kept_of w.0 w.3)).meaning b)
        ∙ ap (λ k. means before k b) w.4 ∙ means_same before was.reduced as_it_was p h is b) in
        absurd (omega (arith, same, w.2))
  ]
    where
      constant : p < 2 → ⊥
      constant low = absurd (omega (
        arith,
        ap (λ (k : Node). k.level) is,
        constant_level before was.reduced p low,
        i.lo_below,
        level_bound old ro (at old n).lo (omega (arith, i.lo_before, known)),
      ))

      kept_of : (id : ℕ) → is_marked_id marks id ≡ true → is_kept marks id ≡ true
      kept_of id e = kept_by (nat_lt id 2) e

  grows : GrowsTable before (before ++ moved_node ∷ [])
  grows = record { longer = omega (arith, length_pushed before moved_node); same = λ p h. at_old before moved_node p h }

  reduced : IsReduced (before ++ moved_node ∷ [])
  reduced = reduced_push before moved_node was.reduced lo_moved.known hi_moved.known differ lo_below hi_below absent

  placed : IsPlaced old before (before ++ moved_node ∷ []) places n (length before)
  placed = record {
    moved = record {
      known = omega (arith, length_pushed before moved_node);
      level = ap (λ (k : Node). k.level) (at_last before moved_node);
      meaning = means_same (before ++ moved_node ∷ []) reduced grows (length before) (omega (arith, length_pushed before moved_node)) (at_last before moved_node);
    };
    is = at_last before moved_node;
    only = λ p from to. omega (arith, from, to, length_pushed before moved_node);
  }

  pub node_moved : AreMoved old marks (before ++ moved_node ∷ []) (places ++ length before ∷ []) (n + 1)
  node_moved = step_moved old before (before ++ moved_node ∷ []) marks places (places ++ length before ∷ []) n (length before) ro known was
      grows reduced refl two (λ _. placed) (λ e. absurd (true≢false (sym m ∙ e)))

-- An Id that isn't marked goes nowhere.
pub skipped : (old before : List Node) (marks : List Bool) (places : List ℕ) (n place : ℕ) → IsReduced old → 2 ≤ n → n < length old
    → AreMoved old marks before places n → is_marked_id marks n ≡ false → AreMoved old marks before (places ++ place ∷ []) (n + 1)
skipped old before marks places n place ro two known was m =
    step_moved old before before marks places (places ++ place ∷ []) n place ro known was (record { longer = omega arith; same = λ p h. refl })
    was.reduced refl two (λ e. absurd (true≢false (sym e ∙ m))) (λ _. refl)
