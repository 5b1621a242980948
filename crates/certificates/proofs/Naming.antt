-- The certificate names the states of the set.
use Rattle.std.proofs.Common.{◌≡◌, ℕ, zero, suc, ◌/◌, ◌%◌, ◌<◌, ◌≤◌, ◌==◌, inl, inr, Bool, true, false, cond, List, [], ◌∷◌, length, get_or, Option, Some, None, IfSome, refl, sym, ◌∙◌, ap, subst, arith, eq-eqb}
use Rattle.std.specs.Option.{option_map_or}
use Rattle.std.proofs.lemmas.Bool.{cases_lt, ne_eqb}
use Rattle.std.proofs.lemmas.List.{get_or-map}
use Rattle.symk_task.specs.declared.parts.TaskParts.{TaskParts}
use Rattle.bdd_table.specs.declared.node.Node.{Node}
use Rattle.bdd_table.specs.Diagram.{Bits, as_bits, level_of, means, IsReduced, put}
use Rattle.bdd_table.specs.Collected.{Reaches, IsMoved}
use Rattle.bdd_ops.specs.Renamed.{IgnoresLevel}
use Rattle.var_order.specs.Layout.{Layout, IsOrderOf, bits, level_at}
use Rattle.var_order.specs.Codes.{IsCode}
use Rattle.bdd_sets.specs.Sets.{IsSetOfStates}
use Rattle.certificates.specs.Meaning.{state_bits, holds}
use Rattle.certificates.specs.Texts.{state_width, IsInOrder}
use Rattle.certificates.specs.Tidy.{IsTidy}
use Rattle.certificates.specs.Places.{places_of, bits_at}
use Rattle.certificates.proofs.Reading.{bits_read}
use Rattle.certificates.specs.Levels.{IsIndex, AreIndexes, bit_at_level, AreSmall, spread}
use Rattle.certificates.specs.Listed.{listed}
use Rattle.certificates.proofs.PlacesAll.{index_there}
use Rattle.certificates.proofs.Depending.{no_level}
use Rattle.certificates.proofs.ListedNodes.{in_order, holds_means, tidy}

past_end : (xs : List (Option ℕ)) (i : ℕ) → length xs ≤ i → get_or xs i None ≡ None
past_end [] i h = refl
past_end (x ∷ xs) zero h = absurd (omega (arith, h))
past_end (x ∷ xs) (suc i) h = past_end xs i (omega (arith, h))

module _ (places : List ℕ) (indexes : List (Option ℕ)) (count : ℕ) (are : AreIndexes places indexes count) where
  -- each index is that of a place
  index_below : (i j : ℕ) → get_or indexes i None ≡ Some j → j < length places
  index_below i j e = elim (cases_lt i count) [
    | inl lt ↦ (let h = subst (IsIndex places i) e (are.each i lt) in h.0)
    | inr far ↦ (let many = are.many in let z : Some j ≡ None = sym e ∙ past_end indexes i (omega (arith, many, far)) in absurd (let f : ⊥ = cc in f))
  ]

  pub small : length places ≤ 65536 → AreSmall indexes
  small most i = by_index (get_or indexes i None) refl
    where
      by_index : (x : Option ℕ) → get_or indexes i None ≡ x → IfSome x (λ bit. bit < 65536)
      by_index None e = tt
      by_index (Some j) e = (let h = index_below i j e in omega (arith, h, most))

  bit_below : (k j : ℕ) → bit_at_level indexes k ≡ Some j → j < length places
  bit_below k j = by_test (k % 2 == 0)
    where
      by_test : (t : Bool) → cond t (get_or indexes (k / 2) None) None ≡ Some j → j < length places
      by_test true e = index_below (k / 2) j e
      by_test false e = absurd (let z : None ≡ Some j = e in let f : ⊥ = cc in f)

  -- what the levels see turns on the bits that there are
  spread_put : (b : Bits) (l : ℕ) (v : Bool) → length places ≤ l → (k : ℕ) → spread indexes (put b l v) k ≡ spread indexes b k
  spread_put b l v far k = by_bit (bit_at_level indexes k) refl
    where
      by_bit : (x : Option ℕ) → bit_at_level indexes k ≡ x → option_map_or (put b l v) x false ≡ option_map_or b x false
      by_bit None e = refl
      by_bit (Some j) e = (let h = bit_below k j e in ap (λ (t : Bool). cond t v (b j))
          (ne_eqb j l (λ same. (let s : j ≡ l = same in omega (arith, s, h, far)))))

module _ (task : TaskParts) (o : Layout) (order : IsOrderOf task o) (places : List ℕ)
    (same : places ≡ places_of task o) (many : length places ≡ state_width task) (indexes : List (Option ℕ))
    (are : AreIndexes places indexes (bits o))
    (old new made : List Node) (set id : ℕ) (roots : List ℕ) (alone : length roots ≡ 1)
    (meaning : (b : Bits) → means new id b ≡ means old set (spread indexes b))
    (moved : IsMoved new made id (get_or roots 0 0)) (reduced : IsReduced made)
    (exact : (n : ℕ) → 2 ≤ n → n < length made → Reaches made roots n) where
  abbrev root : ℕ
  root = get_or roots 0 0

  root_means : (b : Bits) → means made root b ≡ means old set (spread indexes b)
  root_means b = moved.meaning b ∙ meaning b

  ignores : (l : ℕ) → state_width task ≤ l → IgnoresLevel (means made root) l
  ignores l far b v =
      root_means (put b l v)
      ∙ ap (means old set) (let e : spread indexes (put b l v) ≡ spread indexes b =
      λ i k. spread_put places indexes (bits o) are b l v (omega (arith, far, many)) k i in e)
      ∙ sym (root_means b)

  -- the nodes ask for bits that there are
  levels : (n : ℕ) → 2 ≤ n → n < length made → level_of made n < state_width task
  levels n two known = elim (cases_lt (level_of made n) (state_width task)) [
    | inl lt ↦ lt
    | inr far ↦ absurd (no_level made reduced roots (level_of made n)
        (λ i lt. (let z : i ≡ 0 = omega (arith, lt, alone) in (
          subst (λ (k : ℕ). get_or roots k 0 < length made) (sym z) moved.known,
          subst (λ (k : ℕ). IgnoresLevel (means made (get_or roots k 0)) (level_of made n)) (sym z) (ignores (level_of made n) far),
        )))
        n two known (exact n two known) refl)
  ]

  pub made_in_order : IsInOrder (state_width task) (record { nodes = listed made; root = root })
  made_in_order = in_order made reduced (state_width task) root levels moved.known

  pub made_tidy : IsTidy (record { nodes = listed made; root = root })
  made_tidy = tidy made reduced roots root alone refl moved.known exact

  -- the bits of a state, seen at its levels
  seen : (s : List ℕ) (b : Bits) → IsCode o 0 s b → (p : ℕ) → p < bits o → spread indexes (as_bits (state_bits task s)) (level_at 0 p) ≡ b (level_at 0 p)
  seen s b code p lt =
      let there = index_there task o places p order same lt (get_or indexes p None) (are.each p lt) in
      let j = there.0 in
      let even : (level_at 0 p % 2 == 0) ≡ true = (let e : level_at 0 p % 2 ≡ 0 = omega arith in eq-eqb (level_at 0 p % 2) 0 e) in
      let halved : level_at 0 p / 2 ≡ p = omega arith in
      let bit : bit_at_level indexes (level_at 0 p) ≡ Some j =
      ap (λ (t : Bool). cond t (get_or indexes (level_at 0 p / 2) None) None) even
      ∙ ap (λ (k : ℕ). get_or indexes k None) halved ∙ there.1 in
      let read : bits_at places b ≡ state_bits task s = ap (λ (ps : List ℕ). bits_at ps b) same ∙ bits_read task o order s b code in
      ap (λ (x : Option ℕ). option_map_or (as_bits (state_bits task s)) x false) bit
      ∙ ap (λ (xs : List Bool). get_or xs j false) (sym read)
      ∙ get_or-map (λ q. b (level_at 0 q)) places j 0 false there.2
      ∙ ap (λ (q : ℕ). b (level_at 0 q)) there.3

  pub made_names : IsSetOfStates o old set → (s : List ℕ) (b : Bits) → IsCode o 0 s b
      → holds (record { nodes = listed made; root = root }) (state_bits task s) ≡ means old set b
  made_names states s b code =
      holds_means made reduced (state_bits task s) root moved.known
      ∙ root_means (as_bits (state_bits task s))
      ∙ states (spread indexes (as_bits (state_bits task s))) b (seen s b code)

-- The same, as the lists are shown.
pub record Shown (task : TaskParts) (o : Layout) (places : List ℕ) (indexes : List (Option ℕ)) : Type 0 where
  pub same : places ≡ places_of task o
  pub many : length places ≡ state_width task
  pub most : length places ≤ 65536
  pub are : AreIndexes places indexes (bits o)

pub shown : (task : TaskParts) (o : Layout) {items shown_places : List ℕ} {indexes shown_indexes : List (Option ℕ)}
    {count : ℕ} → items ≡ places_of task o → length items ≡ state_width task → length items ≤ 65536
    → shown_places ≡ items → shown_indexes ≡ indexes → count ≡ bits o
    → AreIndexes shown_places indexes count → Shown task o items shown_indexes
shown task o {items} {shown_places} {indexes} {shown_indexes} {count} same many most e f n are = record {
  same = same;
  many = many;
  most = most;
  are = subst (λ (xs : List (Option ℕ)). AreIndexes items xs (bits o)) (sym f)
      (subst (AreIndexes items indexes) n (subst (λ (ps : List ℕ). AreIndexes ps indexes count) e are));
}
