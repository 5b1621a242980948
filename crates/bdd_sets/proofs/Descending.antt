-- The walk down a set, block by block.
use Rattle.std.proofs.Common.{◌≡◌, ◌⊎◌, ℕ, ◌+◌, ◌<◌, Bool, true, List, length, get_or, inl, inr, sym, ◌∙◌, ap, subst, arith}
use Rattle.std.specs.List.{All, Contains}
use Rattle.std.proofs.lemmas.List.{get_or_default}
use Rattle.bdd_table.specs.declared.node.Node.{Node}
use Rattle.bdd_table.specs.Diagram.{Bits, means}
use Rattle.var_order.specs.declared.block.Block.{Block}
use Rattle.var_order.specs.Layout.{Layout, IsLayout, IsInside, block_at, bits}
use Rattle.var_order.specs.Codes.{value_at, IsInRange}
use Rattle.bdd_sets.specs.Marks.{is_marked, block_value, SomeHolds, PassesBlock}
use Rattle.bdd_sets.specs.Occurs.{AreInOrder, AreMarked, AreOccurring}

module _ (o : Layout) (nodes : List Node) (set : ℕ) (starts slots : List ℕ) where
  -- the set's codes are found below the first so many blocks of the list
  pub record Descends (ids : List ℕ) (marks : List Bool) (n : ℕ) : Type 0 where
    pub known : All (λ id. id < length nodes) ids
    pub holds : (b : Bits) → IsInRange o 0 b → means nodes set b ≡ true → SomeHolds nodes ids b
    pub marked : AreMarked o nodes set starts marks slots n

  below_or_at : (k n : ℕ) → k < n + 1 → (k < n) ⊎ (k ≡ n)
  below_or_at k n h = grind arith

  pub descends_more : {ids next : List ℕ} {old new : List Bool} {n : ℕ} (slot : ℕ) {start : ℕ} {block : Block}
      → slot < length o.blocks → slot ≡ get_or slots n 0 → start ≡ get_or starts slot 0 → block ≡ block_at o slot
      → Descends ids old n → PassesBlock nodes block start ids next old new → Descends next new (n + 1)
  descends_more {ids} {next} {old} {new} {n} slot {start} {block} lt at from is d p = record {
    known = p.known;
    holds = λ b range m. (passed b range m).1;
    marked = λ b k range m less. elim (below_or_at k n less) [
      | inl before ↦ p.kept (get_or starts (get_or slots k 0) 0 + value_at o 0 b (get_or slots k 0)) (d.marked b k range m before)
      | inr here ↦ (
          let same : slot ≡ get_or slots k 0 = at ∙ ap (λ (i : ℕ). get_or slots i 0) (sym here) in
          subst (λ (v : ℕ). is_marked new (get_or starts v 0 + value_at o 0 b v) ≡ true) same
          (subst (λ (x : ℕ). is_marked new (x + value_at o 0 b slot) ≡ true) from
          (subst (λ (x : Block). is_marked new (start + block_value x b) ≡ true) is (passed b range m).0)))
    ];
  }
    where
      passed : (b : Bits) → IsInRange o 0 b → means nodes set b ≡ true → (is_marked new (start + block_value block b) ≡ true) × SomeHolds nodes next b
      passed b range m = p.found b (subst (λ (x : Block). block_value x b < x.values) (sym is) (range slot lt)) (d.holds b range m)

-- the blocks with bits, place by place

pub record InOrderBelow (o : Layout) (slots : List ℕ) (n : ℕ) : Type 0 where
  pub each : (slot : ℕ) → slot < length o.blocks → 0 < (block_at o slot).width → (block_at o slot).first < n → Contains slots slot
  pub only : All (λ slot. slot < length o.blocks) slots

pub all_in_order : (o : Layout) (slots : List ℕ) (n : ℕ) → IsLayout o → bits o ≡ n → InOrderBelow o slots n → AreInOrder o slots
all_in_order o slots n l e i = record {
  each = λ slot lt some. (
      let inside : IsInside (block_at o slot) (block_at o slot).first = record { from = omega arith; before = omega (arith, some) } in
      let there = (l.owned slot (block_at o slot).first inside).0 in
      i.each slot lt some (omega (arith, there, e)));
  only = i.only;
}

-- what is marked occurs
pub are_occurring : (o : Layout) (nodes : List Node) (set : ℕ) (starts slots : List ℕ) (marks : List Bool)
    → AreInOrder o slots → AreMarked o nodes set starts marks slots (length slots)
    → AreOccurring o nodes set starts marks
are_occurring o nodes set starts slots marks i m = record {
  each = λ b slot range holds lt some. (
      let in_list = i.each slot lt some in
      let at : get_or slots in_list.0 0 ≡ slot = get_or_default slots in_list.0 0 slot in_list.1 ∙ in_list.2 in
      subst (λ (v : ℕ). is_marked marks (get_or starts v 0 + value_at o 0 b v) ≡ true) at (m b in_list.0 range holds in_list.1));
}
