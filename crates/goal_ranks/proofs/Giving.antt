-- Sets given back one after the other, by number.
use Rattle.std.proofs.Common.{◌≡◌, ℕ, ◌+◌, ◌<◌, ◌⊎◌, ◌↔◌, inl, inr, List, Option, Some, None, slice_get, length, refl, sym, ◌∙◌, ap, subst, arith}
use Rattle.std.proofs.lemmas.Option.{slice_get_within}
use Rattle.space_api.specs.View.{View, Valid}
use Rattle.space_api.specs.Frames.{Forgot}
use Rattle.space_api.specs.Owned.{Trades}
use Rattle.space_api.proofs.Keeping.{stays_refl}
use Rattle.space_api.proofs.Trading.{trades_as, trades_both, trades_forgot, trades_stays}
use Rattle.goal_ranks.specs.declared.parts.Ranked.{Ranked}
use Rattle.goal_ranks.specs.declared.parts.Waiting.{Waiting}
use Rattle.goal_ranks.specs.Giving.{RankSet, SlotSet, InSlot, AllOf, OnceEach}
use Rattle.goal_ranks.specs.Ranks.{AreRankSets, Seat, Rest, OfRank, OfSlot, SetAt}

-- a has a number below n
abbrev pub Below : {Set : Type 0} → (ℕ → Set → Type 0) → ℕ → Set → Type 0
Below Item n a = (i : ℕ) × (i < n) × Item i a

split : (j i : ℕ) → j < i + 1 → (j < i) ⊎ (j ≡ i)
split j i h = grind arith

module _ {Set : Type 0} {v u : View Set} (Item : ℕ → Set → Type 0) (n : ℕ) (t : Trades v u (Below Item n) (λ a. ⊥)) where
  -- the set of the next number
  pub next_valid : (b : Set) → ((i j : ℕ) (a : Set) → Item i a → Item j a → i ≡ j) → Item n b → Valid v b → Valid u b
  next_valid b once at ok = t.others b ok (λ h. let e = once h.0 n b h.2 at in omega (arith, e, h.1))

-- none was given back yet
pub none_yet : {Set : Type 0} (v : View Set) (Item : ℕ → Set → Type 0) → Trades v v (Below Item 0) (λ a. ⊥)
none_yet v Item = trades_as (trades_stays v v (λ a. ⊥) (stays_refl v) (λ a h. absurd h))
    (λ a. ((λ h. absurd h), (λ h. absurd (let lt = h.1 in omega (arith, lt)))))
    (λ a. ((λ x. x), (λ x. x)))

-- all were
pub all_given : {Set : Type 0} {v u : View Set} (Item : ℕ → Set → Type 0) (n : ℕ)
    → ((i : ℕ) (a : Set) → Item i a → i < n) → Trades v u (Below Item n) (λ a. ⊥) → Trades v u (AllOf Item) (λ a. ⊥)
all_given Item n low t = trades_as t
    (λ a. ((λ h. (h.0, h.2)), (λ h. (h.0, low h.0 a h.1, h.1))))
    (λ a. ((λ x. x), (λ x. x)))

-- the sets of the next number, whatever they are, are given back
pub more_given : {Set : Type 0} {v u w : View Set} (Item : ℕ → Set → Type 0) (n : ℕ) (One : Set → Type 0)
    → ((a : Set) → Item n a ↔ One a) → Trades v u (Below Item n) (λ a. ⊥) → Trades u w One (λ a. ⊥)
    → Trades v w (Below Item (n + 1)) (λ a. ⊥)
more_given Item n One same t f = trades_as (trades_both t f)
    (λ a. (
      (λ h. elim h [ inl o ↦ (o.0, omega (arith, o.1), o.2) | inr e ↦ (n, omega arith, (same a).1 e) ]),
      (λ h. elim (split h.0 n h.1) [ inl lt ↦ inl (h.0, lt, h.2) | inr e ↦ inr ((same a).0 (subst (λ (i : ℕ). Item i a) e h.2)) ]),
    ))
    (λ a. ((λ x. x), (λ x. x)))

some_same : {X : Type 0} (a b : X) → Some a ≡ Some b → b ≡ a
some_same a b e = cc

module _ {Set : Type 0} (ranks : List (Ranked Set)) (i : ℕ) (r : Ranked Set) (at : slice_get ranks i ≡ Some r) where
  pub rank_set : (a : Set) → RankSet ranks i a ↔ (a ≡ r.set)
  rank_set a = (
    (λ h. h.2 ∙ ap (λ (q : Ranked Set). q.set) (some_same r h.0 (sym at ∙ h.1))),
    (λ e. (r, at, e)),
  )

module _ {Set : Type 0} (slots : List (Option (Waiting Set))) (i : ℕ) where
  pub slot_set : (o : Option (Waiting Set)) → slice_get slots i ≡ Some o → (a : Set) → SlotSet slots i a ↔ InSlot o a
  slot_set None at a = ((λ h. nothing h.0 (sym at ∙ h.1)), (λ h. absurd h))
    where
      nothing : (e : Waiting Set) → Some None ≡ Some (Some e) → ⊥
      nothing e f = cc
  slot_set (Some e) at a = (
    (λ h. h.2 ∙ set_at h.0 (sym at ∙ h.1)),
    (λ h. (e, at, h)),
  )
    where
      set_at : (d : Waiting Set) → Some (Some e) ≡ Some (Some d) → d.set ≡ e.set
      set_at d f = cc

pub rank_low : {Set : Type 0} (ranks : List (Ranked Set)) (i : ℕ) (a : Set) → RankSet ranks i a → i < length ranks
rank_low ranks i a h = slice_get_within ranks i h.0 h.1

pub slot_low : {Set : Type 0} (slots : List (Option (Waiting Set))) (i : ℕ) (a : Set) → SlotSet slots i a → i < length slots
slot_low slots i a h = slice_get_within slots i (Some h.0) h.1

module _ {Set : Type 0} (v u w x : View Set) (within left : Set) (ranks : List (Ranked Set))
    (slots : List (Option (Waiting Set))) (z : AreRankSets v within left ranks slots) where
  pub rank_valid : (i : ℕ) (a : Set) → RankSet ranks i a → Valid v a
  rank_valid i a h = z.valid (OfRank i) a h

  seat_rank : (i j : ℕ) → OfRank i ≡ OfRank j → i ≡ j
  seat_rank i j e = cc

  seat_slot : (i j : ℕ) → OfSlot i ≡ OfSlot j → i ≡ j
  seat_slot i j e = cc

  rank_slot : (i j : ℕ) → OfRank i ≡ OfSlot j → ⊥
  rank_slot i j e = cc

  rank_rest : (i : ℕ) → OfRank i ≡ Rest → ⊥
  rank_rest i e = cc

  slot_rest : (i : ℕ) → OfSlot i ≡ Rest → ⊥
  slot_rest i e = cc

  pub rank_once : OnceEach (RankSet ranks)
  rank_once i j a h k = seat_rank i j (z.once (OfRank i) (OfRank j) a h k)

  pub slot_once : OnceEach (SlotSet slots)
  slot_once i j a h k = seat_slot i j (z.once (OfSlot i) (OfSlot j) a h k)

  module _ (t : Trades v u (AllOf (RankSet ranks)) (λ a. ⊥)) where
    pub slot_valid : (i : ℕ) (a : Set) → SlotSet slots i a → Valid u a
    slot_valid i a h = t.others a (z.valid (OfSlot i) a h) (λ o. rank_slot o.0 i (z.once (OfRank o.0) (OfSlot i) a o.1 h))

    module _ (s : Trades u w (AllOf (SlotSet slots)) (λ a. ⊥)) where
      pub left_valid : Valid w left
      left_valid =
          let ok = t.others left (z.valid Rest left refl) (λ o. rank_rest o.0 (z.once (OfRank o.0) Rest left o.1 refl)) in
          s.others left ok (λ o. slot_rest o.0 (z.once (OfSlot o.0) Rest left o.1 refl))

      pub all_back : Forgot w x left → Trades v x (λ a. (p : Seat) × SetAt left ranks slots p a) (λ a. ⊥)
      all_back f = trades_as (trades_both (trades_both t s) (trades_forgot left f))
          (λ a. (
            (λ h. elim h [
              | inr e ↦ (Rest, e)
              | inl o ↦ elim o [ inl r ↦ (OfRank r.0, r.1) | inr q ↦ (OfSlot q.0, q.1) ]
            ]),
            (λ h. to a h.0 h.1),
          ))
          (λ a. ((λ y. y), (λ y. y)))
        where
          to : (a : Set) (p : Seat) → SetAt left ranks slots p a → ((AllOf (RankSet ranks) a ⊎ AllOf (SlotSet slots) a) ⊎ (a ≡ left))
          to a Rest e = inr e
          to a (OfRank i) q = inl (inl (i, q))
          to a (OfSlot i) q = inl (inr (i, q))
