-- Marks that spread from a node to its children.
use Rattle.std.proofs.Common.{◌≡◌, ℕ, ◌+◌, ◌<◌, ◌≤◌, ◌⊎◌, Bool, true, false, inl, inr, List, length, sym, ◌∙◌, ap, subst, arith, slice_index, slice_set, below_more}
use Rattle.std.proofs.lemmas.List.{get_or-set_same, get_or-set_other}
use Rattle.bdd_table.specs.declared.node.Node.{Node}
use Rattle.bdd_table.specs.Diagram.{at}
use Rattle.bdd_table.specs.Collected.{MarkedFrom, is_marked_id, Reaches}
use Rattle.bdd_table.specs.Collected.Reaches.{root, lo, hi}
use Rattle.bdd_table.proofs.Canonical.{order}

-- a root is marked
pub root_marked : (xs : List Node) (roots : List ℕ) (marks : List Bool) (i : ℕ) → i < length roots → slice_index roots i < length marks
    → ((k : ℕ) → k < i → is_marked_id marks (slice_index roots k) ≡ true) → ((id : ℕ) → is_marked_id marks id ≡ true → Reaches xs roots id)
    → ((k : ℕ) → k < i + 1 → is_marked_id (slice_set marks (slice_index roots i) true) (slice_index roots k) ≡ true)
    × ((id : ℕ) → is_marked_id (slice_set marks (slice_index roots i) true) id ≡ true → Reaches xs roots id)
root_marked xs roots marks i h known before only = (
  below_more _ i (λ k l. stays (slice_index roots k) (before k l)) (get_or-set_same marks (slice_index roots i) true false known),
  λ id m. elim (order id (slice_index roots i)) [
    | inl a ↦ only id (sym (get_or-set_other marks (slice_index roots i) id true false (λ e. absurd (omega arith))) ∙ m)
    | inr (inl e) ↦ subst (Reaches xs roots) (sym e) (root i h)
    | inr (inr a) ↦ only id (sym (get_or-set_other marks (slice_index roots i) id true false (λ e. absurd (omega arith))) ∙ m)
  ],
)
  where
    stays : (k : ℕ) → is_marked_id marks k ≡ true → is_marked_id (slice_set marks (slice_index roots i) true) k ≡ true
    stays k m = elim (order k (slice_index roots i)) [
      | inl a ↦ get_or-set_other marks (slice_index roots i) k true false (λ e. absurd (omega arith)) ∙ m
      | inr (inl e) ↦ subst (λ j. is_marked_id (slice_set marks (slice_index roots i) true) j ≡ true) (sym e)
          (get_or-set_same marks (slice_index roots i) true false known)
      | inr (inr a) ↦ get_or-set_other marks (slice_index roots i) k true false (λ e. absurd (omega arith)) ∙ m
    ]

pub marked_step : {xs : List Node} {roots : List ℕ} {before after : List Bool} (id : ℕ)
    → MarkedFrom xs roots before (id + 1) → length after ≡ length before
    → ((k : ℕ) → is_marked_id before k ≡ true → is_marked_id after k ≡ true) → ((k : ℕ) → id ≤ k → is_marked_id after k ≡ is_marked_id before k)
    → (is_marked_id before id ≡ true → is_marked_id after (at xs id).lo ≡ true) → (is_marked_id before id ≡ true → is_marked_id after (at xs id).hi ≡ true)
    → ((k : ℕ) → is_marked_id after k ≡ true → (is_marked_id before k ≡ true) ⊎ ((is_marked_id before id ≡ true) × ((k ≡ (at xs id).lo) ⊎ (k ≡ (at xs id).hi))))
    → MarkedFrom xs roots after id
marked_step {xs} {roots} {before} {after} id was len kept later mark_lo mark_hi only = record {
  as_long = len ∙ was.as_long;
  roots_marked = λ i h. kept _ (was.roots_marked i h);
  lo_marked = λ j from two known m. let b = sym (later j from) ∙ m in elim (order id j) [
    | inl a ↦ kept _ (was.lo_marked j (omega arith) two known b)
    | inr (inl e) ↦ subst (λ k. is_marked_id after (at xs k).lo ≡ true) e (mark_lo (ap (is_marked_id before) e ∙ b))
    | inr (inr a) ↦ absurd (omega arith)
  ];
  hi_marked = λ j from two known m. let b = sym (later j from) ∙ m in elim (order id j) [
    | inl a ↦ kept _ (was.hi_marked j (omega arith) two known b)
    | inr (inl e) ↦ subst (λ k. is_marked_id after (at xs k).hi ≡ true) e (mark_hi (ap (is_marked_id before) e ∙ b))
    | inr (inr a) ↦ absurd (omega arith)
  ];
  only = λ k m. elim (only k m) [
    | inl b ↦ was.only k b
    | inr (b, inl e) ↦ subst (Reaches xs roots) (sym e) (lo id (was.only id b))
    | inr (b, inr e) ↦ subst (Reaches xs roots) (sym e) (hi id (was.only id b))
  ];
}
