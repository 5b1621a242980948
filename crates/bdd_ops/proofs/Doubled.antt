-- More places have what the old ones have.
use Rattle.std.proofs.Common.{◌≡◌, ℕ, ◌-◌, ◌<◌, ◌≤◌, ◌⊎◌, inl, inr, List, [], ◌++◌, length, replicate, slice_index_or, take, zero, suc, refl, sym, ◌∙◌, ap, subst, arith}
use Rattle.std.proofs.lemmas.List.{get_or_append_left, get_or-append_right, get_or-replicate, get_or_past, length-replicate}
use Rattle.bdd_ops.specs.Recent.{HaveOf, HaveOfOr}

below_or : (a b : ℕ) → (a < b) ⊎ (b ≤ a)
below_or a b = grind arith

module _ {T : Type 0} (empty : T) where
  all_empty : (n i : ℕ) → slice_index_or (replicate n empty) i empty ≡ empty
  all_empty n i = elim (below_or i n) [
    | inl lt ↦ get_or-replicate n i empty empty lt
    | inr ge ↦ get_or_past (replicate n empty) i empty (omega (arith, length-replicate n empty, ge))
  ]

  take_none : (n : ℕ) (none : List T) → none ≡ [] → take n none ≡ []
  take_none zero none e = refl
  take_none (suc n) none e = ap (λ (l : List T). take (suc n) l) e

  -- new places are empty, as each place past the old ones is
  pub new_have : (xs none new : List T) (n m : ℕ) → none ≡ [] → new ≡ take n none ++ replicate m empty → HaveOf empty xs new
  new_have xs none new n m z is i =
      let e : new ≡ replicate m empty = is ∙ ap (λ (l : List T). l ++ replicate m empty) (take_none n none z) in
      (length xs, ap (λ (l : List T). slice_index_or l i empty) e ∙ all_empty m i ∙ sym (get_or_past xs (length xs) empty (omega arith)))

  halves : (xs : List T) → HaveOf empty xs (xs ++ xs)
  halves xs i = elim (below_or i (length xs)) [
    | inl lt ↦ (i, get_or_append_left xs xs empty i lt)
    | inr ge ↦ (i - length xs, get_or-append_right xs xs (length xs) i empty refl ge)
  ]

  pub twice_have : (xs none one new : List T) → none ≡ [] → one ≡ none ++ xs → new ≡ one ++ xs → HaveOf empty xs new
  twice_have xs none one new z first second =
      let e : new ≡ xs ++ xs = second ∙ ap (λ (l : List T). l ++ xs) (first ∙ ap (λ (l : List T). l ++ xs) z) in
      subst (HaveOf empty xs) (sym e) (halves xs)

  pub same_have : (xs : List T) → HaveOf empty xs xs
  same_have xs i = (i, refl)

  pub put_have : (slot : T) (old mid new : List T) → HaveOf empty old mid
      → ((i : ℕ) → (slice_index_or new i empty ≡ slice_index_or mid i empty) ⊎ (slice_index_or new i empty ≡ slot))
      → HaveOfOr slot empty old new
  put_have slot old mid new have put i = elim (put i) [ inl e ↦ (let a = have i in inl (a.0, e ∙ a.1)) | inr e ↦ inr e ]
