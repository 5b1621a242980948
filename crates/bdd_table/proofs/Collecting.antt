-- What a collection leaves is what the roots reach.
use Rattle.std.proofs.Common.{◌≡◌, ℕ, ◌+◌, ◌<◌, ◌≤◌, ◌||◌, Bool, true, false, inl, inr, List, length, refl, sym, ◌∙◌, ap, subst, arith, nat_lt, slice_index, ltb-true}
use Rattle.std.proofs.lemmas.Grind.{get_or_default_zero}
use Rattle.bdd_table.specs.declared.node.Node.{Node}
use Rattle.bdd_table.specs.Diagram.{at, means, IsReduced}
use Rattle.bdd_table.specs.Collected.{MarkedFrom, is_marked_id, is_kept, Reaches, AreReached, IsMoved, IsClosed, AreMoved}
use Rattle.bdd_table.specs.Collected.Reaches.{root, lo, hi}
use Rattle.bdd_table.proofs.Canonical.{canonical, inner_of_level, level_bound, order}
use Rattle.bdd_table.proofs.Adding.{lo_known, hi_known}
use Rattle.bdd_table.proofs.Meaning.{split}
use Rattle.bdd_table.proofs.Counting.{as_many}

or_right : (a b : Bool) → b ≡ true → (a || b) ≡ true
or_right true b e = refl
or_right false b e = e

-- children of kept nodes are kept
pub closed_marks : (old : List Node) (roots : List ℕ) (marks : List Bool) → MarkedFrom old roots marks 2 → IsClosed old marks
closed_marks old roots marks m = record {
  as_long = m.as_long;
  lo_kept = λ id two known kept. or_right (nat_lt (at old id).lo 2) _ (m.lo_marked id two two known (marked id two kept));
  hi_kept = λ id two known kept. or_right (nat_lt (at old id).hi 2) _ (m.hi_marked id two two known (marked id two kept));
}
  where
    marked : (id : ℕ) → 2 ≤ id → is_kept marks id ≡ true → is_marked_id marks id ≡ true
    marked id two k = (elim (nat_lt id 2) as (λ t. nat_lt id 2 ≡ t → (t || is_marked_id marks id) ≡ true → is_marked_id marks id ≡ true) [
      | true ↦ λ t m. let low = ltb-true id 2 t in absurd (omega arith)
      | false ↦ λ t m. m
    ]) refl k

module _ (old new : List Node) (marks : List Bool) (places roots after : List ℕ) (ro : IsReduced old)
    (m : MarkedFrom old roots marks 2) (a : AreMoved old marks new places (length old))
    (roots_known : (i : ℕ) → i < length roots → slice_index roots i < length old) (as_long : length after ≡ length roots)
    (moved : (i : ℕ) → i < length roots → slice_index after i ≡ slice_index places (slice_index roots i)) where
  root_kept : (i : ℕ) → i < length roots → is_kept marks (slice_index roots i) ≡ true
  root_kept i h = or_right (nat_lt (slice_index roots i) 2) _ (m.roots_marked i h)

  pub roots_moved : (i : ℕ) → i < length roots → IsMoved old new (slice_index roots i) (slice_index after i)
  roots_moved i h = subst (λ p. IsMoved old new (slice_index roots i) p) (sym (moved i h)) (a.moved (slice_index roots i) (roots_known i h) (root_kept i h))

  -- what is reached is kept, and its place is reached
  pub record IsReachedToo (id : ℕ) : Type 0 where
    pub known : id < length old
    pub kept : is_kept marks id ≡ true
    pub place : Reaches new after (slice_index places id)

  kept_lo : (id : ℕ) → id < length old → is_kept marks id ≡ true → is_kept marks (at old id).lo ≡ true
  kept_lo id h kept = elim (split id) [
    | inl z ↦ ap (λ k. is_kept marks (at old k).lo) z ∙ ap (λ (n : Node). is_kept marks n.lo) ro.of_false
    | inr (inl z) ↦ ap (λ k. is_kept marks (at old k).lo) z ∙ ap (λ (n : Node). is_kept marks n.lo) ro.of_true
    | inr (inr two) ↦ (closed_marks old roots marks m).lo_kept id two h kept
  ]

  kept_hi : (id : ℕ) → id < length old → is_kept marks id ≡ true → is_kept marks (at old id).hi ≡ true
  kept_hi id h kept = elim (split id) [
    | inl z ↦ ap (λ k. is_kept marks (at old k).hi) z ∙ ap (λ (n : Node). is_kept marks n.hi) ro.of_false
    | inr (inl z) ↦ ap (λ k. is_kept marks (at old k).hi) z ∙ ap (λ (n : Node). is_kept marks n.hi) ro.of_true
    | inr (inr two) ↦ (closed_marks old roots marks m).hi_kept id two h kept
  ]

  reached_too : (id : ℕ) → Reaches old roots id → IsReachedToo id
  reached_too _ (root i h) = record {
    known = roots_known i h;
    kept = root_kept i h;
    place = subst (Reaches new after)
        (moved i h) (root i (omega (arith, h, as_long)));
  }
  reached_too _ (lo id r) = let w = reached_too id r in record {
    known = lo_known old ro id w.known;
    kept = kept_lo id w.known w.kept;
    place = subst (Reaches new after) (a.lo_moved id w.known w.kept) (lo (slice_index places id) w.place);
  }
  reached_too _ (hi id r) = let w = reached_too id r in record {
    known = hi_known old ro id w.known;
    kept = kept_hi id w.known w.kept;
    place = subst (Reaches new after) (a.hi_moved id w.known w.kept) (hi (slice_index places id) w.place);
  }

  pub all_reached : (p : ℕ) → 2 ≤ p → p < length new → Reaches new after p
  all_reached p two h = let w = a.only p two h in subst (Reaches new after) w.4 (reached_too w.0 (m.only w.0 w.3)).place

  -- there are as many nodes as were reached
  pub count_reached : (ids : List ℕ) → AreReached old roots ids → length new ≡ length ids + 2
  count_reached ids r = as_many (λ i. slice_index places (slice_index ids i)) (length ids) (length new) (a.reduced.constants) within one_to_one onto
    where
      there : (i : ℕ) → i < length ids → IsReachedToo (slice_index ids i)
      there i h = reached_too (slice_index ids i) (r.only i 0 h).1

      inner : (i : ℕ) → i < length ids → IsMoved old new (slice_index ids i) (slice_index places (slice_index ids i))
          → 2 ≤ slice_index places (slice_index ids i)
      inner i h w =
          let o = ro.inner (slice_index ids i) (r.only i 0 h).0 (there i h).known in
          let top = level_bound old ro (at old (slice_index ids i)).lo (omega (arith, o.lo_before, (there i h).known)) in
          inner_of_level new a.reduced (slice_index places (slice_index ids i)) (omega (arith, w.level, o.lo_below, top))

      within : (i : ℕ) → i < length ids → (2 ≤ slice_index places (slice_index ids i)) × (slice_index places (slice_index ids i) < length new)
      within i h = let w = a.moved (slice_index ids i) (there i h).known (there i h).kept in (inner i h w, w.known)

      one_to_one : (i j : ℕ) → i < length ids → j < length ids → slice_index places (slice_index ids i) ≡ slice_index places (slice_index ids j) → i ≡ j
      one_to_one i j less more e =
          let x = a.moved (slice_index ids i) (there i less).known (there i less).kept in
          let y = a.moved (slice_index ids j) (there j more).known (there j more).kept in
          let same = canonical old ro (slice_index ids i) (slice_index ids j) (there i less).known
          (there j more).known (λ b. sym (x.meaning b) ∙ ap (λ k. means new k b) e ∙ y.meaning b) in
          elim (order i j) [
            | inl s ↦ absurd (r.once i j 0 s more same)
            | inr (inl s) ↦ s
            | inr (inr s) ↦ absurd (r.once j i 0 s less (sym same))
          ]

      onto : (k : ℕ) → 2 ≤ k → k < length new → (i : ℕ) × (i < length ids) × (slice_index places (slice_index ids i) ≡ k)
      onto k two h = let w = a.only k two h in let c = r.each w.0 w.1 (m.only w.0 w.3) in
          (c.0, c.1, ap (slice_index places) (sym (get_or_default_zero ids c.0 w.0 c.1) ∙ c.2) ∙ w.4)
