-- What an Id reaches stays the same as the table grows.
use Rattle.std.proofs.Common.{ℕ, zero, suc, ◌<◌, List, [], ◌∷◌, length, slice_index, sym, ap, subst, arith}
use Rattle.bdd_table.specs.declared.node.Node.{Node}
use Rattle.bdd_table.specs.Diagram.{IsReduced, GrowsTable, Keeps}
use Rattle.bdd_table.specs.Collected.{Reaches, AreReached}
use Rattle.bdd_table.specs.Collected.Reaches.{root, lo, hi}
use Rattle.bdd_table.proofs.Adding.{lo_known, hi_known}
use Rattle.trans_merge.specs.Size.{HasAtMost}
use Rattle.bdd_table.proofs.Growing.{kept_grows}

module _ (old new : List Node) (ro : IsReduced old) (g : GrowsTable old new) (roots : List ℕ)
    (known : (i : ℕ) → i < length roots → slice_index roots i < length old) where
  reached_there : (id : ℕ) → Reaches old roots id → (id < length old) × Reaches new roots id
  reached_there _ (root i h) = (known i h, root i h)
  reached_there _ (lo id r) =
      (let w = reached_there id r in (
        lo_known old ro id w.0,
        subst (Reaches new roots)
            (ap (λ (n : Node). n.lo) (g.same id w.0)) (lo id w.1),
      ))
  reached_there _ (hi id r) =
      (let w = reached_there id r in (
        hi_known old ro id w.0,
        subst (Reaches new roots)
            (ap (λ (n : Node). n.hi) (g.same id w.0)) (hi id w.1),
      ))

  reached_back : (id : ℕ) → Reaches new roots id → (id < length old) × Reaches old roots id
  reached_back _ (root i h) = (known i h, root i h)
  reached_back _ (lo id r) = (
      let w = reached_back id r in
      let e = ap (λ (n : Node). n.lo) (g.same id w.0) in
      let k = lo_known old ro id w.0 in
      (omega (arith, e, k), subst (Reaches old roots) (sym e) (lo id w.1)))
  reached_back _ (hi id r) = (
      let w = reached_back id r in
      let e = ap (λ (n : Node). n.hi) (g.same id w.0) in
      let k = hi_known old ro id w.0 in
      (omega (arith, e, k), subst (Reaches old roots) (sym e) (hi id w.1)))

  pub reached_grown : (ids : List ℕ) → AreReached old roots ids → AreReached new roots ids
  reached_grown ids r = record {
    once = r.once;
    each = λ id two h. r.each id two (reached_back id h).1;
    only = λ i d lt. (let w = r.only i d lt in (w.0, (reached_there _ w.1).1));
  }

  pub reached_before : (ids : List ℕ) → AreReached new roots ids → AreReached old roots ids
  reached_before ids r = record {
    once = r.once;
    each = λ id two h. r.each id two (reached_there id h).1;
    only = λ i d lt. (let w = r.only i d lt in (w.0, (reached_back _ w.1).1));
  }

pub one_known : (n id i : ℕ) → id < n → i < length (id ∷ []) → slice_index (id ∷ []) i < n
one_known n id zero h lt = h
one_known n id (suc i) h lt = absurd (omega (arith, lt))

-- an Id has as many nodes as before
pub at_most_kept : (old new : List Node) (id most : ℕ) → IsReduced old → IsReduced new → Keeps old new
    → id < length old → HasAtMost old id most → HasAtMost new id most
at_most_kept old new id most ro rn k known h = (
  h.0,
  reached_grown old new ro (kept_grows old new ro rn k) (id ∷ [])
      (λ i lt. one_known (length old) id i known lt) h.0 h.1,
  h.2,
)

-- and had as many
pub at_most_before : (old new : List Node) (id most : ℕ) → IsReduced old → IsReduced new → Keeps old new
    → id < length old → HasAtMost new id most → HasAtMost old id most
at_most_before old new id most ro rn k known h = (
  h.0,
  reached_before old new ro (kept_grows old new ro rn k)
      (id ∷ []) (λ i lt. one_known (length old) id i known lt) h.0 h.1,
  h.2,
)
