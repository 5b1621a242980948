-- Two Ids of a reduced table that mean the same are equal.
use Rattle.std.proofs.Common.{◌≡◌, ℕ, zero, suc, ◌+◌, ◌<◌, ◌≤◌, ◌==◌, Bool, true, false, cond, ◌↔◌, ◌⊎◌, inl, inr, List, length, refl, sym, ◌∙◌, ap, subst, arith, eqb-true, eq-eqb, true≢false}
use Rattle.bdd_table.specs.declared.node.Node.{Node}
use Rattle.bdd_table.specs.Diagram.{Bits, node_of, at, level_of, means, IsInner, IsReduced, put}
use Rattle.bdd_table.proofs.Meaning.{split, means_chosen, means_later, means_false, means_true}

-- what is left of an Id whose level is l or later, once the bit of l is v
abbrev pub half : List Node → ℕ → ℕ → Bool → ℕ
half xs id l v = cond (level_of xs id == l) (cond v (at xs id).hi (at xs id).lo) id

-- of two numbers one is less, or they are equal
pub order : (m n : ℕ) → (m < n) ⊎ (m ≡ n) ⊎ (n < m)
order zero zero = inr (inl refl)
order zero (suc n) = inl (omega arith)
order (suc m) zero = inr (inr (omega arith))
order (suc m) (suc n) = elim (order m n) [
  | inl a ↦ inl (omega arith)
  | inr (inl e) ↦ inr (inl (ap suc e))
  | inr (inr a) ↦ inr (inr (omega arith))
]

pub put_here : (b : Bits) (l : ℕ) (v : Bool) → put b l v l ≡ v
put_here b l v = let e : (l == l) ≡ true = eq-eqb l l refl in rw e refl

pub put_other : (b : Bits) (l : ℕ) (v : Bool) (k : ℕ) → l < k → put b l v k ≡ b k
put_other b l v k h = (elim (k == l) as (λ t. (k == l) ≡ t → cond t v (b k) ≡ b k) [
  | true ↦ λ e. let same : k ≡ l = eqb-true k l e in absurd (omega arith)
  | false ↦ λ e. refl
]) refl

module _ (xs : List Node) (r : IsReduced xs) where
  pub constant_level : (id : ℕ) → id < 2 → level_of xs id ≡ 4294967295
  constant_level id h = elim (split id) [
    | inl z ↦ ap (level_of xs) z ∙ ap (λ (n : Node). n.level) r.of_false
    | inr (inl z) ↦ ap (level_of xs) z ∙ ap (λ (n : Node). n.level) r.of_true
    | inr (inr two) ↦ absurd (omega arith)
  ]

  bounded : (k id : ℕ) → id ≤ k → id < length xs → level_of xs id ≤ 4294967295
  bounded zero id h known = let e : level_of xs id ≡ 4294967295 = constant_level id (omega arith) in omega (arith, e)
  bounded (suc k) id h known = elim (split id) [
    | inl z ↦ let e : level_of xs id ≡ 4294967295 = constant_level id (omega arith) in omega (arith, e)
    | inr (inl z) ↦ let e : level_of xs id ≡ 4294967295 = constant_level id (omega arith) in omega (arith, e)
    | inr (inr two) ↦ let i = r.inner id two known in
        let up = bounded k (at xs id).lo (omega (arith, i.lo_before)) (omega (arith, i.lo_before)) in omega (arith, up, i.lo_below)
  ]

  pub level_bound : (id : ℕ) → id < length xs → level_of xs id ≤ 4294967295
  level_bound id known = bounded id id (omega arith) known

  pub inner_of_level : (id : ℕ) → level_of xs id < 4294967295 → 2 ≤ id
  inner_of_level id h = elim (split id) [
    | inl z ↦ let e = constant_level id (omega arith) in absurd (omega (arith, e))
    | inr (inl z) ↦ let e = constant_level id (omega arith) in absurd (omega (arith, e))
    | inr (inr two) ↦ two
  ]

  -- with v at l an Id means what is left of it means
  pub means_put : (b : Bits) (l id : ℕ) (v : Bool) → id < length xs → l < 4294967295 → l ≤ level_of xs id
      → means xs id (put b l v) ≡ means xs (half xs id l v) b
  means_put b l id v known low h = (elim (level_of xs id == l) as
      (λ t. (level_of xs id == l) ≡ t → means xs id (put b l v) ≡ means xs
      (cond t (cond v (at xs id).hi (at xs id).lo) id) b) [
        | true ↦ λ e. let same : level_of xs id ≡ l = eqb-true (level_of xs id) l e in
            let i = r.inner id (inner_of_level id (omega arith)) known in
            let bit : put b l v (level_of xs id) ≡ v = ap (put b l v) same ∙ put_here b l v in
            means_chosen xs r (put b l v) id known ∙ ap (λ c. means xs (cond c (at xs id).hi (at xs id).lo) (put b l v)) bit ∙ child v same i
        | false ↦ λ e. means_later xs r (put b l v) b id known (λ k g. put_other b l v k (strict e k g))
      ]) refl
    where
      child : (w : Bool) → level_of xs id ≡ l → IsInner xs id
          → means xs (cond w (at xs id).hi (at xs id).lo) (put b l v) ≡ means xs
          (cond w (at xs id).hi (at xs id).lo) b
      child true same i = means_later xs r (put b l v) b (at xs id).hi (omega (arith, i.hi_before)) (λ k g. put_other b l v k (omega (arith, i.hi_below)))
      child false same i = means_later xs r (put b l v) b (at xs id).lo (omega (arith, i.lo_before)) (λ k g. put_other b l v k (omega (arith, i.lo_below)))

      strict : (level_of xs id == l) ≡ false → (k : ℕ) → level_of xs id ≤ k → l < k
      strict e k g = elim (order l k) [
        | inl a ↦ a
        | inr (inl s) ↦ let same : level_of xs id ≡ l = omega arith in absurd (true≢false (sym (eq-eqb (level_of xs id) l same) ∙ e))
        | inr (inr a) ↦ absurd (omega arith)
      ]

  -- what is left of an Id is known, and no greater; smaller if the Id is of that level
  pub half_known : (l id : ℕ) (v : Bool) → id < length xs → l < 4294967295 → half xs id l v ≤ id
  half_known l id v known low = (elim (level_of xs id == l) as (λ t. (level_of xs id == l) ≡ t → cond t (cond v (at xs id).hi (at xs id).lo) id ≤ id) [
    | true ↦ λ e. let same : level_of xs id ≡ l = eqb-true (level_of xs id) l e in
        let i = r.inner id (inner_of_level id (omega arith)) known in
        elim v as (λ w. cond w (at xs id).hi (at xs id).lo ≤ id) [ true ↦ omega (arith, i.hi_before) | false ↦ omega (arith, i.lo_before) ]
    | false ↦ λ e. omega arith
  ]) refl

  pub half_smaller : (l id : ℕ) (v : Bool) → id < length xs → l < 4294967295 → level_of xs id ≡ l → half xs id l v < id
  half_smaller l id v known low same =
      let i = r.inner id (inner_of_level id (omega arith)) known in
      rw (eq-eqb (level_of xs id) l same) ((elim v as (λ w. cond w (at xs id).hi (at xs id).lo < id) [ true ↦ i.hi_before | false ↦ i.lo_before ]))

  abbrev Agree : ℕ → ℕ → Type 0
  Agree f g = (b : Bits) → means xs f b ≡ means xs g b

  halves_agree : (f g l : ℕ) (v : Bool) → f < length xs → g < length xs → l < 4294967295 → l ≤ level_of xs f
      → l ≤ level_of xs g → Agree f g → Agree (half xs f l v) (half xs g l v)
  halves_agree f g l v kf kg low hf hg same b = sym (means_put b l f v kf low hf) ∙ same (put b l v) ∙ means_put b l g v kg low hg

  half_is : (id l : ℕ) (v : Bool) → level_of xs id ≡ l → half xs id l v ≡ cond v (at xs id).hi (at xs id).lo
  half_is id l v e = rw (eq-eqb (level_of xs id) l e) refl

  half_not : (id l : ℕ) (v : Bool) → l < level_of xs id → half xs id l v ≡ id
  half_not id l v h = (elim (level_of xs id == l) as (λ t. (level_of xs id == l) ≡ t → cond t (cond v (at xs id).hi (at xs id).lo) id ≡ id) [
    | true ↦ λ e. let same : level_of xs id ≡ l = eqb-true (level_of xs id) l e in absurd (omega arith)
    | false ↦ λ e. refl
  ]) refl

  -- the claim for Ids whose sum is below n
  abbrev UniqueBelow : ℕ → Type 0
  UniqueBelow n = (f g : ℕ) → f + g < n → f < length xs → g < length xs → Agree f g → f ≡ g

  module _ (n : ℕ) (below : UniqueBelow n) where
    both : (f g l : ℕ) (v : Bool) → f + g < suc n → f < length xs → g < length xs → Agree f g → l < 4294967295
        → level_of xs f ≡ l → l ≤ level_of xs g → half xs f l v ≡ half xs g l v
    both f g l v h kf kg same low ef hg =
        let a = half_smaller l f v kf low ef in
        let c = half_known l g v kg low in
        below (half xs f l v) (half xs g l v) (omega (arith, a, c)) (omega (arith, a)) (omega (arith, c)) (halves_agree f g l v kf kg low (omega arith) hg same)

    apart : (f g : ℕ) → f + g < suc n → f < length xs → g < length xs → Agree f g → level_of xs f < 4294967295 → level_of xs f < level_of xs g → f ≡ g
    apart f g h kf kg same low a =
        let l = level_of xs f in
        let i = r.inner f (inner_of_level f low) kf in
        let t = both f g l true h kf kg same low refl (omega arith) in
        let u = both f g l false h kf kg same low refl (omega arith) in
        absurd (i.differ (sym (half_is f l false refl) ∙ u ∙ half_not g l false a ∙ sym (half_not g l true a) ∙ sym t ∙ half_is f l true refl))

    level : (f g : ℕ) → f + g < suc n → f < length xs → g < length xs → Agree f g → level_of xs f < 4294967295 → level_of xs f ≡ level_of xs g → f ≡ g
    level f g h kf kg same low e =
        let l = level_of xs f in
        let t = both f g l true h kf kg same low refl (omega arith) in
        let u = both f g l false h kf kg same low refl (omega arith) in
        let hi : (at xs f).hi ≡ (at xs g).hi = sym (half_is f l true refl) ∙ t ∙ half_is g l true (sym e) in
        let lo : (at xs f).lo ≡ (at xs g).lo = sym (half_is f l false refl) ∙ u ∙ half_is g l false (sym e) in
        r.unique f g kf kg (λ k. node_of (e k) (lo k) (hi k))

  constants : (f g : ℕ) → f < length xs → g < length xs → Agree f g → level_of xs f ≡ 4294967295 → level_of xs g ≡ 4294967295 → f ≡ g
  constants f g kf kg same cf cg = elim (split f) [
    | inl zf ↦ elim (split g) [
      | inl zg ↦ omega arith
      | inr (inl zg) ↦ let e : means xs 0 none ≡ means xs 1 none = subst (λ k. means xs 0 none ≡ means xs k none) zg (subst (λ k. means xs k none ≡ means xs g none) zf (same none)) in
          absurd (true≢false (sym (means_true xs r none) ∙ sym e ∙ means_false xs r none))
      | inr (inr two) ↦ absurd (deep g two kg cg)
    ]
    | inr (inl zf) ↦ elim (split g) [
      | inl zg ↦ let e : means xs 1 none ≡ means xs 0 none = subst (λ k. means xs 1 none ≡ means xs k none) zg (subst (λ k. means xs k none ≡ means xs g none) zf (same none)) in
          absurd (true≢false (sym (means_true xs r none) ∙ e ∙ means_false xs r none))
      | inr (inl zg) ↦ omega arith
      | inr (inr two) ↦ absurd (deep g two kg cg)
    ]
    | inr (inr two) ↦ absurd (deep f two kf cf)
  ]
    where
      none : Bits
      none = λ l. false

      deep : (id : ℕ) → 2 ≤ id → id < length xs → level_of xs id ≡ 4294967295 → ⊥
      deep id two known e = let i = r.inner id two known in let up = level_bound (at xs id).lo (omega (arith, i.lo_before)) in omega (arith, up, i.lo_below)

  unique_below : (n : ℕ) → UniqueBelow n
  unique_below zero f g h kf kg same = absurd (omega arith)
  unique_below (suc n) f g h kf kg same = elim (order (level_of xs f) (level_of xs g)) [
    | inl a ↦ let low : level_of xs f < 4294967295 = omega (arith, level_bound g kg) in apart n (unique_below n) f g h kf kg same low a
    | inr (inr a) ↦ let low : level_of xs g < 4294967295 = omega (arith, level_bound f kf) in sym
        (apart n (unique_below n) g f (omega arith) kg kf (λ b. sym (same b)) low a)
    | inr (inl e) ↦ elim (order (level_of xs f) 4294967295) [
      | inl low ↦ level n (unique_below n) f g h kf kg same low e
      | inr (inl c) ↦ constants f g kf kg same c (sym e ∙ c)
      | inr (inr over) ↦ absurd (omega (arith, level_bound f kf))
    ]
  ]

  pub canonical : (f g : ℕ) → f < length xs → g < length xs → ((b : Bits) → means xs f b ≡ means xs g b) → f ≡ g
  canonical f g kf kg same = unique_below (suc (f + g)) f g (omega arith) kf kg same

pub same_is : (xs : List Node) → IsReduced xs → (f g : ℕ) → f < length xs → g < length xs → ((f == g) ≡ true) ↔ ((b : Bits) → means xs f b ≡ means xs g b)
same_is xs r f g kf kg = (λ e b. ap (λ i. means xs i b) (eqb-true f g e), λ h. eq-eqb f g (canonical xs r f g kf kg h))
