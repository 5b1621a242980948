-- What is left of Ids below a block, value by value.
use Rattle.std.proofs.Common.{◌≡◌, ◌≢◌, ◌⊎◌, ◌↔◌, ℕ, ◌+◌, ◌<◌, Bool, true, eqb, List, [], ◌∷◌, ◌++◌, length, get_or, inl, inr, sym, ◌∙◌, ap, subst, arith, true≢false}
use Rattle.std.specs.List.{dedup}
use Rattle.std.specs.List.Sorted.{IsPermutation}
use Rattle.std.proofs.lemmas.List.{get_or_default}
use Rattle.std.proofs.lemmas.List.Elements.{Contains-get_or, Contains-push, Contains-push_cases, Contains-append_left}
use Rattle.std.proofs.lemmas.List.Kept.{Contains-dedup_nat, Contains-from_dedup}
use Rattle.std.proofs.lemmas.List.Sorted.{Contains-permutation, IsPermutation-sym}
use Rattle.bdd_table.specs.declared.node.Node.{Node}
use Rattle.bdd_table.specs.Diagram.{Bits, means, IsReduced}
use Rattle.bdd_table.proofs.Meaning.{means_false}
use Rattle.var_order.specs.declared.block.Block.{Block}
use Rattle.bdd_sets.specs.Marks.{is_marked, KeepsMarks, block_value, PassesBlock}
use Rattle.bdd_sets.specs.Ends.{HasId, AreKnown, AddsEnd, FindsEnd, AddsEnds}

module _ (nodes : List Node) (block : Block) (start : ℕ) where
  -- so far as the values below n go
  pub record AddsBelow (id : ℕ) (old new : List ℕ) (marks more : List Bool) (n : ℕ) : Type 0 where
    pub kept : KeepsMarks marks more
    pub keeps : (q : ℕ) → HasId old q → HasId new q
    pub known : AreKnown nodes new
    pub found : (b : Bits) → block_value block b < n → means nodes id b ≡ true → FindsEnd nodes block start id new more b

  pub finds_more : (id : ℕ) (old new : List ℕ) (marks more : List Bool) (b : Bits) → KeepsMarks marks more
      → ((q : ℕ) → HasId old q → HasId new q) → FindsEnd nodes block start id old marks b
      → FindsEnd nodes block start id new more b
  finds_more id old new marks more b kept keeps f = record {
    marked = kept (start + block_value block b) f.marked;
    end = f.end;
    has = keeps f.end f.has;
    holds = f.holds;
  }

  below_or_at : (k n : ℕ) → k < n + 1 → (k < n) ⊎ (k ≡ n)
  below_or_at k n h = grind arith

  module _ (r : IsReduced nodes) (id : ℕ) where
    -- what the Id leaves below one more value
    pub adds_more : {old now new : List ℕ} {marks mid more : List Bool} {n end : ℕ} → AddsBelow id old now marks mid n
        → end < length nodes → ((b : Bits) → block_value block b ≡ n → means nodes end b ≡ means nodes id b)
        → AddsEnd (start + n) end now new mid more → AddsBelow id old new marks more (n + 1)
    adds_more {old} {now} {new} {marks} {mid} {more} {n} {end} a lt same e = record {
      kept = λ place h. e.kept place (a.kept place h);
      keeps = λ q h. e.keeps q (a.keeps q h);
      known = λ q h. elim (e.only q h) [ inl o ↦ a.known q o | inr is ↦ omega (arith, is, lt) ];
      found = λ b le m. elim (below_or_at (block_value block b) n le) [
        | inl less ↦ finds_more id now new mid more b e.kept e.keeps (a.found b less m)
        | inr at ↦ (
            let holds : means nodes end b ≡ true = same b at ∙ m in
            let some : end ≢ 0 = λ z. true≢false (sym holds ∙ ap (λ (x : ℕ). means nodes x b) z ∙ means_false nodes r b) in
            record {
              marked = subst (λ (v : ℕ). is_marked more (start + v) ≡ true) (sym at) (e.marked some);
              end = end;
              has = e.has some;
              holds = holds;
            })
      ];
    }

  -- of the first so many Ids
  pub record PassesBelow (ids : List ℕ) (ends : List ℕ) (marks more : List Bool) (n : ℕ) : Type 0 where
    pub kept : KeepsMarks marks more
    pub known : AreKnown nodes ends
    pub found : (b : Bits) (k : ℕ) → k < n → block_value block b < block.values → means nodes (get_or ids k 0) b ≡ true
        → FindsEnd nodes block start (get_or ids k 0) ends more b

  pub passes_none : (ids : List ℕ) (ends : List ℕ) (marks : List Bool) → AreKnown nodes ends → PassesBelow ids ends marks marks 0
  passes_none ids ends marks known = record { kept = λ place h. h; known = known; found = λ b k lt. absurd (omega (arith, lt)) }

  -- and of all of them
  pub passes_all : (ids ends next : List ℕ) (marks more : List Bool) → PassesBelow ids ends marks more (length ids)
      → ((q : ℕ) → HasId next q ↔ HasId ends q) → PassesBlock nodes block start ids next marks more
  unfolding HasId
  passes_all ids ends next marks more p same = record {
    kept = p.kept;
    known = λ k d lt. p.known (get_or next k d) ((same (get_or next k d)).0 (Contains-get_or next k d lt));
    found = λ b less (id, (k, lt, is), m). (
        let at : get_or ids k 0 ≡ id = get_or_default ids k 0 id lt ∙ is in
        let f = p.found b k lt less (subst (λ (x : ℕ). means nodes x b ≡ true) (sym at) m) in
        (f.marked, (f.end, (same f.end).1 f.has, f.holds)));
  }

pub none_known : (nodes : List Node) → AreKnown nodes []
unfolding HasId
none_known nodes id h = absurd (omega (arith, h.1))

-- the Id at the end of a list, and one more
pub put_last : (ids : List ℕ) (k id d : ℕ) → k < length ids → get_or ids k d ≡ id → (q : ℕ) → HasId ids q ↔ (HasId ids q ⊎ (q ≡ id))
unfolding HasId
put_last ids k id d lt is q = (
  (λ h. inl h),
  (λ h. elim h [ inl old ↦ old | inr e ↦ subst (λ (x : ℕ). HasId ids x) (sym e) (k, lt, get_or_default ids k id d lt ∙ is) ]),
)

pub put_more : (ids : List ℕ) (id q : ℕ) → HasId (ids ++ id ∷ []) q ↔ (HasId ids q ⊎ (q ≡ id))
unfolding HasId
put_more ids id q = (
  (λ h. elim (Contains-push_cases ids id q h) [ inl old ↦ inl old | inr e ↦ inr (sym e) ]),
  (λ h. elim h [ inl old ↦ Contains-append_left ids (id ∷ []) q old | inr e ↦ subst (λ (x : ℕ). HasId (ids ++ id ∷ []) x) (sym e) (Contains-push ids id) ]),
)

-- sorted, and each once
pub once_same : (ids sorted once : List ℕ) → IsPermutation ids sorted → once ≡ dedup eqb sorted → (q : ℕ) → HasId once q ↔ HasId ids q
unfolding HasId
once_same ids sorted once p is q = (
  (λ h. Contains-permutation sorted ids q (IsPermutation-sym ids sorted p) (Contains-from_dedup eqb sorted q (subst (λ (xs : List ℕ). HasId xs q) is h))),
  (λ h. subst (λ (xs : List ℕ). HasId xs q) (sym is) (Contains-dedup_nat sorted q (Contains-permutation ids sorted q p h))),
)

-- what is left below the one value that all codes of an Id have
pub adds_forced : {nodes : List Node} (block : Block) (start id value end : ℕ) {old new : List ℕ}
    {marks more : List Bool} → IsReduced nodes → end < length nodes → AreKnown nodes old
    → ((b : Bits) → means nodes id b ≡ true → (block_value block b ≡ value) × (means nodes end b ≡ true))
    → AddsEnd (start + value) end old new marks more → AddsEnds nodes block start id old new marks more
adds_forced {nodes} block start id value end {old} {new} {marks} {more} r lt known told e = record {
  kept = e.kept;
  keeps = e.keeps;
  known = λ q h. elim (e.only q h) [ inl o ↦ known q o | inr is ↦ omega (arith, is, lt) ];
  found = λ b less m. (
      let holds : means nodes end b ≡ true = (told b m).1 in
      let some : end ≢ 0 = λ z. true≢false (sym holds ∙ ap (λ (x : ℕ). means nodes x b) z ∙ means_false nodes r b) in
      record {
        marked = subst (λ (v : ℕ). is_marked more (start + v) ≡ true) (sym (told b m).0) (e.marked some);
        end = end;
        has = e.has some;
        holds = holds;
      });
}
