-- The nodes that a table holds where the roots reach all of them are those that the roots need.
use Rattle.std.proofs.Common.{◌≡◌, ℕ, ◌+◌, ◌-◌, ◌<◌, ◌≤◌, List, length, get_or, sym, ◌∙◌, subst, arith}
use Rattle.std.specs.List.{range_with_len}
use Rattle.std.proofs.lemmas.List.FromFn.{length-range_with_len, get_or-range_with_len}
use Rattle.bdd_table.specs.declared.node.Node.{Node}
use Rattle.bdd_table.specs.Diagram.{IsReduced}
use Rattle.bdd_table.specs.Collected.{Reaches, AreReached}
use Rattle.bdd_table.proofs.Adding.{lo_known, hi_known}

-- what known roots reach is known
reached_known : (nodes : List Node) (roots : List ℕ) → IsReduced nodes
    → ((i : ℕ) → i < length roots → get_or roots i 0 < length nodes) → (id : ℕ)
    → Reaches nodes roots id → id < length nodes
reached_known nodes roots r known id (Reaches.root i lt) = known i lt
reached_known nodes roots r known id (Reaches.lo at_id reached) = lo_known nodes r at_id (reached_known nodes roots r known at_id reached)
reached_known nodes roots r known id (Reaches.hi at_id reached) = hi_known nodes r at_id (reached_known nodes roots r known at_id reached)

-- the Ids of all nodes
abbrev pub node_ids : List Node → List ℕ
node_ids nodes = range_with_len 2 (length nodes - 2)

module _ (nodes : List Node) (roots : List ℕ) (r : IsReduced nodes) (known : (i : ℕ) → i < length roots → get_or roots i 0 < length nodes) where
  ids_count : length (node_ids nodes) ≡ length nodes - 2
  ids_count = length-range_with_len 2 (length nodes - 2)

  id_at : (k d : ℕ) → k < length nodes - 2 → get_or (node_ids nodes) k d ≡ 2 + k
  id_at k d lt = get_or-range_with_len 2 (length nodes - 2) k d lt

  pub all_reached : ((id : ℕ) → 2 ≤ id → id < length nodes → Reaches nodes roots id) → AreReached nodes roots (node_ids nodes)
  all_reached exact = record {
    once = λ i j d before lt. (
        let c = ids_count in
        let here = id_at i d (omega (arith, before, lt, c)) in
        let there = id_at j d (omega (arith, lt, c)) in
        λ same. absurd (omega (arith, here, there, same, before)));
    each = λ id two reached. (
        let below = reached_known nodes roots r known id reached in
        let c = ids_count in
        (id - 2, omega (arith, two, below, c), (id_at (id - 2) id (omega (arith, two, below)) ∙ (let e : 2 + (id - 2) ≡ id = omega (arith, two) in e))));
    only = λ k d lt. (
        let c = ids_count in
        let inside : k < length nodes - 2 = omega (arith, lt, c) in
        let is = id_at k d inside in
        (omega (arith, is), subst (Reaches nodes roots) (sym is) (exact (2 + k) (omega arith) (omega (arith, inside)))));
  }
