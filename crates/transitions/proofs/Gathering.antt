-- What holds of the first effects, and of one more.
use Rattle.std.proofs.Common.{◌≡◌, ℕ, ◌+◌, ◌<◌, ◌≤◌, ◌&&◌, ◌↔◌, inl, inr, Bool, true, List, length, get_or, sym, ◌∙◌, ap, subst, arith}
use Rattle.std.specs.List.{All}
use Rattle.std.proofs.lemmas.Bool.{cases_eq, and_parts, and_from}
use Rattle.std.proofs.lemmas.List.{get_or_default}
use Rattle.symk_task.specs.declared.parts.Effect.{Effect}

-- the effect stands at the place
pub record StandsAt (es : List Effect) (i : ℕ) (e : Effect) : Type 0 where
  pub within : i < length es
  pub is : e ≡ get_or es i e

-- the first n elements are so
abbrev pub FirstAre : (Effect → Type 0) → List Effect → ℕ → Type 0
FirstAre P es n = (k : ℕ) (d : Effect) → k < n → P (get_or es k d)

pub first_none : (P : Effect → Type 0) (es : List Effect) → FirstAre P es 0
first_none P es k d lt = absurd (omega (arith, lt))

pub first_more : (P : Effect → Type 0) (es : List Effect) (i : ℕ) (e : Effect) → i < length es → e ≡ get_or es i e
    → FirstAre P es i → P e → FirstAre P es (i + 1)
first_more P es i e within is h here k d lt = elim (cases_eq k i) [
  | inl same ↦ subst P (is ∙ get_or_default es i e d within ∙ ap (λ (j : ℕ). get_or es j d) (sym same)) here
  | inr ne ↦ (let other : k ≡ i → ⊥ = ne in h k d (omega (arith, lt, other)))
]

pub first_all : (P : Effect → Type 0) (es : List Effect) (i : ℕ) → length es ≤ i → FirstAre P es i → All P es
first_all P es i far h k d lt = h k d (omega (arith, lt, far))

pub first_of_all : (P : Effect → Type 0) (es : List Effect) (i : ℕ) → i < length es → FirstAre P es (i + 1)
    → FirstAre P es i × ((e : Effect) → e ≡ get_or es i e → P e)
first_of_all P es i within h = ((λ k d lt. h k d (omega (arith, lt))), (λ e is. subst P (sym is) (h i e (omega arith))))

-- a conjunction with what holds of the next element
pub conj_more : {es : List Effect} {i : ℕ} {e : Effect} (P : Effect → Type 0) (old all value new : Bool)
    → StandsAt es i e → (old ≡ true) ↔ FirstAre P es i → (value ≡ true) ↔ P e
    → new ≡ (all && value) → all ≡ old → (new ≡ true) ↔ FirstAre P es (i + 1)
conj_more {es} {i} {e} P old all value new at before here both same = (
  (λ h. (
      let parts = and_parts all value (sym both ∙ h) in
      first_more P es i e at.within at.is (before.0 (sym same ∙ parts.0)) (here.0 parts.1))),
  (λ h. (
      let parts = first_of_all P es i at.within h in
      both ∙ and_from all value (same ∙ before.1 parts.0) (here.1 (parts.1 e at.is)))),
)

-- the same beside what held at first
pub more_allowed : (S : Type 0) (P : Effect → Type 0) (es : List Effect) (i : ℕ) (e : Effect) (old new : Bool)
    → i < length es → e ≡ get_or es i e → (old ≡ true) ↔ (S × FirstAre P es i)
    → (new ≡ true) ↔ ((old ≡ true) × P e) → (new ≡ true) ↔ (S × FirstAre P es (i + 1))
more_allowed S P es i e old new within is before here = (
  (λ h. (let x = here.0 h in let y = before.0 x.0 in (y.0, first_more P es i e within is y.1 x.1))),
  (λ h. (let parts = first_of_all P es i within h.1 in here.1 (before.1 (h.0, parts.0), parts.1 e is))),
)
