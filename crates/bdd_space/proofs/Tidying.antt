-- What a collection owes, from what the operations on the table, the relations and the places of the sets say. The space is
-- `e` inside, and `old` to its callers.
use Rattle.std.proofs.Common.{◌≡◌, ℕ, ◌+◌, ◌<◌, ◌≤◌, List, length, get_or, sym, ◌∙◌, ap, subst}
use Rattle.std.specs.List.{slice_range}
use Rattle.bdd_table.specs.declared.node.Node.{Node}
use Rattle.bdd_table.specs.Diagram.{IsReduced}
use Rattle.bdd_table.specs.Collected.{IsMoved, Reaches, AreReached}
use Rattle.space_api.specs.Frames.{Stays}
use Rattle.space_api.specs.Tidied.{Collected}
use Rattle.trans_merge.specs.declared.relations.OperatorRelations.{OperatorRelations}
use Rattle.trans_merge.specs.Relations.{AreRelationsOf}
use Rattle.trans_merge.specs.Roots.{roots_of as relation_roots, AreMovedTo}
use Rattle.trans_merge.proofs.Rooting.{known_roots}
use Rattle.bdd_space.specs.declared.slots.Slot.{Slot}
use Rattle.bdd_space.specs.Slots.{AreSlotsMoved}
use Rattle.bdd_space.specs.Symbolic.{Symbolic, IsSpace, symbolic_roots}
use Rattle.bdd_space.specs.Seen.{seen, Needs}
use Rattle.bdd_space.proofs.Moved.{collected, set_from, roots_known, relations_to, space_collected, stays_collected, is_collected}

module _ (e old : Symbolic) (start : List ℕ) (i : IsSpace e start) (same : e ≡ old) (xs : List ℕ) (are : xs ≡ symbolic_roots old) where
  inside : xs ≡ symbolic_roots e
  inside = are ∙ ap symbolic_roots (sym same)

  -- the roots are Ids of the table
  pub known_by : (k : ℕ) → k < length xs → get_or xs k 0 < length e.nodes
  known_by k lt = subst (λ (ys : List ℕ). k < length ys → get_or ys k 0 < length e.nodes) (sym inside)
      (roots_known e start i (known_roots e.task e.order e.nodes e.relations i.relations) k) lt

  module _ (places at : List ℕ) (slice : at ≡ places) (now : List Node) (r : IsReduced now) (as_long : length places ≡ length xs)
      (moved : (k : ℕ) → k < length xs → IsMoved e.nodes now (get_or xs k 0) (get_or places k 0)) where
    at_long : length at ≡ length (symbolic_roots e)
    at_long = ap length slice ∙ as_long ∙ ap length inside

    at_moved : (k : ℕ) → k < length (symbolic_roots e) → IsMoved e.nodes now (get_or (symbolic_roots e) k 0) (get_or at k 0)
    at_moved k lt =
        subst (λ (ys : List ℕ). IsMoved e.nodes now (get_or (symbolic_roots e) k 0) (get_or ys k 0)) (sym slice)
        (subst (λ (ys : List ℕ). k < length ys → IsMoved e.nodes now (get_or ys k 0) (get_or places k 0)) inside (moved k) lt)

    module _ (relations : OperatorRelations) (slots : List Slot) (n from : ℕ) (is_from : from ≡ set_from e) (sets : AreSlotsMoved e.sets at from slots) where
      sets_at : AreSlotsMoved e.sets at (set_from e) slots
      sets_at = subst (λ (k : ℕ). AreSlotsMoved e.sets at k slots) is_from sets

      pub relations_by : AreMovedTo e.nodes now (relation_roots e.relations) at 3
      relations_by = relations_to e start now at relations slots n i r at_long at_moved sets_at

      pub space_by : AreRelationsOf e.task e.order now relations → IsSpace (collected e now at relations slots n) start
      space_by = space_collected e start now at relations slots n i r at_long at_moved sets_at

      pub stays_by : Stays (seen old) (seen (collected e now at relations slots n))
      stays_by = subst (λ (x : Symbolic). Stays (seen x) (seen (collected e now at relations slots n))) same
          (stays_collected e start now at relations slots n i r at_long at_moved sets_at)

      pub collected_by : relation_roots relations ≡ slice_range at 3 (3 + length (relation_roots e.relations)) → n + 2 ≡ length now
          → ((id : ℕ) → 2 ≤ id → id < length now → Reaches now places id) → ((ids : List ℕ) → AreReached e.nodes xs ids → length now ≡ length ids + 2)
          → Collected (Needs old) (Needs (collected e now at relations slots n)) (seen old) (seen (collected e now at relations slots n))
      collected_by taken held exact count = subst (λ (x : Symbolic). Collected (Needs x)
          (Needs (collected e now at relations slots n)) (seen x) (seen (collected e now at relations slots n)))
          same
          (is_collected e start now at relations slots n i r at_long at_moved sets_at taken held
          (λ id two lt. subst (λ (ys : List ℕ). Reaches now ys id) (sym slice) (exact id two lt))
          (λ ids reached. count ids (subst (λ (ys : List ℕ). AreReached e.nodes ys ids) (sym inside) reached)))
