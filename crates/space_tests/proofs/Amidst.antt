-- One set more or less, anywhere in a list.
use Rattle.std.proofs.Common.{◌≡◌, ◌≢◌, ◌⊎◌, ◌↔◌, List, [], ◌∷◌, ◌++◌, inl, inr, sym, ◌∙◌, arith, refl}
use Rattle.space_api.specs.Owned.{Amid, Absent, AllApart}

-- the members are x and the others
pub amid_with : {Set : Type 0} (before : List Set) (x : Set) (after : List Set) (a : Set) → Amid (before ++ x ∷ after) a ↔ (Amid (before ++ after) a ⊎ (a ≡ x))
amid_with [] x after a = grind arith
amid_with (y ∷ before) x after a = grind (arith, amid_with before x after a)

absent_without : {Set : Type 0} (before : List Set) (x : Set) (after : List Set) (a : Set) → Absent (before ++ x ∷ after) a → Absent (before ++ after) a × (a ≢ x)
absent_without [] x after a h = (h.1, h.0)
absent_without (y ∷ before) x after a h = (let r = absent_without before x after a h.1 in ((h.0, r.0), r.1))

absent_with : {Set : Type 0} (before : List Set) (x : Set) (after : List Set) (a : Set) → Absent (before ++ after) a → a ≢ x → Absent (before ++ x ∷ after) a
absent_with [] x after a h n = (n, h)
absent_with (y ∷ before) x after a h n = (h.0, absent_with before x after a h.1 n)

absent_amid : {Set : Type 0} (xs : List Set) (x a : Set) → Absent xs x → Amid xs a → a ≢ x
absent_amid [] x a h m = absurd m
absent_amid (y ∷ xs) x a h (inl e) = λ s. h.0 (sym s ∙ e)
absent_amid (y ∷ xs) x a h (inr m) = absent_amid xs x a h.1 m

absent_of : {Set : Type 0} (xs : List Set) (x : Set) → ((a : Set) → Amid xs a → a ≢ x) → Absent xs x
absent_of [] x n = tt
absent_of (y ∷ xs) x n = ((λ s. n y (inl refl) (sym s)), absent_of xs x (λ a m. n a (inr m)))

-- x is none of the others
pub apart_without : {Set : Type 0} (before : List Set) (x : Set) (after : List Set) → AllApart (before ++ x ∷ after) → AllApart (before ++ after) × ((a : Set) → Amid (before ++ after) a → a ≢ x)
apart_without [] x after h = (h.1, λ a m. absent_amid after x a h.0 m)
apart_without (y ∷ before) x after h =
    let f = absent_without before x after y h.0 in
    let r = apart_without before x after h.1 in
    ((f.0, r.0), λ a m. elim m [ inl e ↦ (λ s. f.1 (sym e ∙ s)) | inr k ↦ r.1 a k ])

pub apart_with : {Set : Type 0} (before : List Set) (x : Set) (after : List Set) → AllApart (before ++ after) → ((a : Set) → Amid (before ++ after) a → a ≢ x) → AllApart (before ++ x ∷ after)
apart_with [] x after h n = (absent_of after x n, h)
apart_with (y ∷ before) x after h n = (absent_with before x after y h.0 (n y (inl refl)), apart_with before x after h.1 (λ a m. n a (inr m)))
