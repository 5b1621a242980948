-- A layout stays one with one more variable.
use Rattle.std.proofs.Common.{◌≡◌, ℕ, ◌+◌, ◌-◌, ◌<◌, ◌≤◌, ◌⊎◌, inl, inr, List, [], ◌∷◌, ◌++◌, length, get_or, replicate, Option, Some, None, refl, sym, ◌∙◌, ap, subst, arith, length-append, suc, zero}
use Rattle.std.proofs.lemmas.Bool.{cases_lt, cases_eq}
use Rattle.std.proofs.lemmas.List.{get_or_append_left, get_or_push, get_or_past, length_push, get_or-append_right, get_or-replicate, length-replicate}
use Rattle.std.proofs.lemmas.List.Sums.{sum_by_push}
use Rattle.symk_task.specs.Variables.{width}
use Rattle.var_order.specs.declared.block.Block.{Block}
use Rattle.var_order.specs.Layout.{Layout, IsLayout, IsSized, IsInside, no_block, slot_of, block_at, owner_at, bits}
use Rattle.var_order.specs.Growth.{with_base, with_derived}

-- an item of a list that one was added to is an old one, or the new one, or there is none
pub pushed : {X : Type 0} (xs : List X) (y d : X) (i : ℕ) → ((i < length xs)
    × (get_or (xs ++ y ∷ []) i d ≡ get_or xs i d)) ⊎ (((i ≡ length xs) × (get_or (xs ++ y ∷ []) i d ≡ y))
    ⊎ ((length xs < i) × (get_or (xs ++ y ∷ []) i d ≡ d)))
pushed xs y d i = elim (cases_lt i (length xs)) [
  | inl lt ↦ inl (lt, get_or_append_left xs (y ∷ []) d i lt)
  | inr ge ↦ inr (elim (cases_eq i (length xs)) [
    | inl e ↦ inl (e, get_or_push xs y d i (sym e))
    | inr ne ↦ (let ne2 : i ≡ length xs → ⊥ = ne in inr (omega (arith, ge, ne2), get_or_past (xs ++ y ∷ []) i d (omega (arith, ge, ne2, length_push xs y))))
  ])
]

-- the slot of a variable of a longer list
pub slot_pushed : (slots : List (Option ℕ)) (new : Option ℕ) (var slot : ℕ)
    → get_or (slots ++ new ∷ []) var None ≡ Some slot → (get_or slots var None ≡ Some slot)
    ⊎ ((var ≡ length slots) × (new ≡ Some slot))
slot_pushed slots new var slot h = elim (pushed slots new None var) [
  | inl old ↦ inl (sym old.1 ∙ h)
  | inr more ↦ elim more [
    | inl last ↦ inr (last.0, sym last.1 ∙ h)
    | inr past ↦ (let e : None ≡ Some slot = sym past.1 ∙ h in absurd (let z : ⊥ = cc in z))
  ]
]

pub slot_within : (slots : List (Option ℕ)) (var slot : ℕ) → get_or slots var None ≡ Some slot → var < length slots
slot_within [] var slot h = absurd (let z : ⊥ = cc in z)
slot_within (x ∷ slots) zero slot h = omega arith
slot_within (x ∷ slots) (suc var) slot h = (let k = slot_within slots var slot h in omega (arith, k))

pub layout_derived : (o : Layout) → IsLayout o → IsLayout (with_derived o)
layout_derived o l = record {
  sum = l.sum;
  most = l.most;
  sized = l.sized;
  owned = l.owned;
  inside = l.inside;
  slots = λ var slot h. elim (slot_pushed o.slots None var slot h) [ inl old ↦ l.slots var slot old | inr new ↦ absurd (let e = new.1 in let z : ⊥ = cc in z) ];
  one = λ u v slot h k. elim (slot_pushed o.slots None u slot h) [
    | inl old ↦ elim (slot_pushed o.slots None v slot k) [ inl old2 ↦ l.one u v slot old old2 | inr new ↦ absurd (let e = new.1 in let z : ⊥ = cc in z) ]
    | inr new ↦ absurd (let e = new.1 in let z : ⊥ = cc in z)
  ];
  used = λ slot lt. (let u = l.used slot lt in (u.0, get_or_append_left o.slots (None ∷ []) None u.0 (slot_within o.slots u.0 slot u.1) ∙ u.1));
}

-- the block of a layout with one more
abbrev BlockCase : Layout → ℕ → ℕ → Type 0
BlockCase o n slot = ((slot < length o.blocks) × (block_at (with_base o n) slot ≡ block_at o slot))
    ⊎ (((slot ≡ length o.blocks) × (block_at (with_base o n) slot ≡ record { first = length o.owners; width = width n; values = n }))
    ⊎ ((length o.blocks < slot) × (block_at (with_base o n) slot ≡ no_block)))

block_case : (o : Layout) (n slot : ℕ) → BlockCase o n slot
block_case o n slot = pushed o.blocks (record { first = length o.owners; width = width n; values = n }) no_block slot

sized_more : (o : Layout) (n : ℕ) → IsLayout o → 1 ≤ n → n ≤ 65536 → (slot : ℕ) → slot < length (with_base o n).blocks → IsSized (block_at (with_base o n) slot)
sized_more o n l some most slot lt = elim (block_case o n slot) [
  | inl old ↦ subst IsSized (sym old.1) (l.sized slot old.0)
  | inr more ↦ elim more [
    | inl last ↦ subst IsSized (sym last.1) (record { bits = refl; some = some; most = most })
    | inr past ↦ absurd (let k = past.0 in
        let m = length_push o.blocks (record { first = length o.owners; width = width n; values = n }) in omega
        (arith, lt, k, m))
  ]
]

owned_more : (o : Layout) (n : ℕ) → IsLayout o → (slot place : ℕ) → IsInside (block_at (with_base o n) slot) place
    → (place < bits (with_base o n)) × (owner_at (with_base o n) place ≡ slot)
owned_more o n l slot place h =
    let all = length-append o.owners (replicate (width n) (length o.blocks)) in
    let some = length-replicate (width n) (length o.blocks) in
    elim (block_case o n slot) [
      | inl old ↦ (let k : IsInside (block_at o slot) place = subst (λ (x : Block). IsInside x place) old.1 h in
          let m = l.owned slot place k in
          (let lt = m.0 in omega (arith, all, lt), get_or_append_left o.owners (replicate (width n) (length o.blocks)) 0 place m.0 ∙ m.1))
      | inr more ↦ elim more [
        | inl last ↦ (let k : IsInside (record { first = length o.owners; width = width n; values = n }) place =
            subst (λ (x : Block). IsInside x place) last.1 h in
            let from : length o.owners ≤ place = k.from in
            let before : place < length o.owners + width n = k.before in (
              omega (arith, all, some, before),
              get_or-append_right o.owners (replicate (width n) (length o.blocks))
                  (length o.owners) place 0 refl from ∙ get_or-replicate (width n) (place - length o.owners)
                  (length o.blocks) 0 (omega (arith, from, before)) ∙ sym last.0,
            ))
        | inr past ↦ (let k : IsInside no_block place = subst (λ (x : Block). IsInside x place) past.1 h in absurd
            (let z : place < 0 + 0 = k.before in omega (arith, z)))
      ]
    ]

inside_more : (o : Layout) (n : ℕ) → IsLayout o → (place : ℕ) → place < bits (with_base o n)
    → (owner_at (with_base o n) place < length (with_base o n).blocks)
    × IsInside (block_at (with_base o n) (owner_at (with_base o n) place)) place
inside_more o n l place lt =
    let block : Block = record { first = length o.owners; width = width n; values = n } in
    let more = length_push o.blocks block in
    let all = length-append o.owners (replicate (width n) (length o.blocks)) in
    let some = length-replicate (width n) (length o.blocks) in
    let Right : ℕ → Type 0 = λ owner. (owner < length (with_base o n).blocks) × IsInside (block_at (with_base o n) owner) place in
    elim (cases_lt place (length o.owners)) [
      | inl early ↦ (let k = l.inside place early in
          subst Right (sym (get_or_append_left o.owners (replicate (width n) (length o.blocks)) 0 place early))
          (let m = k.0 in (
            omega (arith, m, more),
            subst (λ (x : Block). IsInside x place)
                (sym (get_or_append_left o.blocks (block ∷ []) no_block (owner_at o place) k.0)) k.1,
          )))
      | inr late ↦ subst Right (sym (get_or-append_right o.owners (replicate (width n) (length o.blocks))
          (length o.owners) place 0 refl late ∙ get_or-replicate (width n) (place - length o.owners)
          (length o.blocks) 0 (omega (arith, lt, all, some, late)))) (
            omega (arith, more),
            subst (λ (x : Block). IsInside x place)
                (sym (get_or_push o.blocks block no_block (length o.blocks) refl))
                (record { from = late; before = omega (arith, lt, all, some) }),
          )
    ]

some_same : (x y : ℕ) → Some x ≡ Some y → x ≡ y
some_same x y e = cc

slots_more : (o : Layout) (n : ℕ) → IsLayout o → (var slot : ℕ) → slot_of (with_base o n) var ≡ Some slot → slot < length (with_base o n).blocks
slots_more o n l var slot h =
    let more = length_push o.blocks (record { first = length o.owners; width = width n; values = n }) in
    elim (slot_pushed o.slots (Some (length o.blocks)) var slot h) [
      | inl old ↦ (let k = l.slots var slot old in omega (arith, k, more))
      | inr new ↦ (let e = some_same (length o.blocks) slot new.1 in omega (arith, e, more))
    ]

one_more : (o : Layout) (n : ℕ) → IsLayout o → (u v slot : ℕ) → slot_of (with_base o n) u ≡ Some slot → slot_of (with_base o n) v ≡ Some slot → u ≡ v
one_more o n l u v slot h k = elim (slot_pushed o.slots (Some (length o.blocks)) u slot h) [
  | inl old ↦ elim (slot_pushed o.slots (Some (length o.blocks)) v slot k) [
    | inl old2 ↦ l.one u v slot old old2
    | inr new ↦ absurd (let e = some_same (length o.blocks) slot new.1 in let lt = l.slots u slot old in omega (arith, e, lt))
  ]
  | inr new ↦ elim (slot_pushed o.slots (Some (length o.blocks)) v slot k) [
    | inl old ↦ absurd (let e = some_same (length o.blocks) slot new.1 in let lt = l.slots v slot old in omega (arith, e, lt))
    | inr new2 ↦ new.0 ∙ sym new2.0
  ]
]

used_more : (o : Layout) (n : ℕ) → IsLayout o → (slot : ℕ) → slot < length (with_base o n).blocks → (var : ℕ) × (slot_of (with_base o n) var ≡ Some slot)
used_more o n l slot lt = elim (cases_lt slot (length o.blocks)) [
  | inl early ↦ (let u = l.used slot early in (u.0, get_or_append_left o.slots (Some (length o.blocks) ∷ []) None u.0 (slot_within o.slots u.0 slot u.1) ∙ u.1))
  | inr late ↦ (let more = length_push o.blocks (record { first = length o.owners; width = width n; values = n }) in
      let e : length o.blocks ≡ slot = omega (arith, late, lt, more) in (
        length o.slots,
        get_or_push o.slots
            (Some (length o.blocks)) None (length o.slots) refl ∙ ap (λ (x : ℕ). Some x) e,
      ))
]

pub layout_base : (o : Layout) (n : ℕ) → IsLayout o → 1 ≤ n → n ≤ 65536 → bits o + width n ≤ 65536 → IsLayout (with_base o n)
layout_base o n l some most fits =
    let block : Block = record { first = length o.owners; width = width n; values = n } in
    let all = length-append o.owners (replicate (width n) (length o.blocks)) in
    let many = length-replicate (width n) (length o.blocks) in
    record {
      sum = (let e = sum_by_push (λ (x : Block). x.width) o.blocks block in let k = l.sum in omega (arith, all, many, e, k));
      most = omega (arith, all, many, fits);
      sized = sized_more o n l some most;
      owned = owned_more o n l;
      inside = inside_more o n l;
      slots = slots_more o n l;
      one = one_more o n l;
      used = used_more o n l;
    }

-- the layout of these lists
pub layout_of : (o : Layout) (slots : List (Option ℕ)) (blocks : List Block) (owners : List ℕ) → slots ≡ o.slots
    → blocks ≡ o.blocks → owners ≡ o.owners → IsLayout o → IsLayout
    (record { slots = slots; blocks = blocks; owners = owners })
layout_of o slots blocks owners e f g l = rw (e, f, g) l
