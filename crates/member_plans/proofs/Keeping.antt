-- Marks are put in at one place.
use Rattle.std.proofs.Common.{◌≡◌, ℕ, zero, suc, ◌<◌, ◌⊎◌, inl, inr, List, [], ◌∷◌, length, get_or, Option, Some, None, slice_get, refl, sym, ◌∙◌, ap, subst, arith}
use Rattle.std.proofs.Math.ListN.{set}
use Rattle.std.proofs.lemmas.Option.{slice_get_read}
use Rattle.task_system.specs.System.{System}
use Rattle.stubborn_sets.specs.Stubborn.{Stubborn}
use Rattle.stubborn_sets.specs.Closing.{has_mark}
use Rattle.member_plans.specs.Kept.{AreStubborn, HasMarksAt, PutsNoOtherMark}
use Rattle.member_plans.specs.declared.kept.Marked.{Marked}

got_here : (xs : List (Option Marked)) (n : ℕ) (m : Marked) → n < length xs → slice_get (set xs n (Some m)) n ≡ Some (Some m)
got_here [] n m lt = absurd (omega arith)
got_here (x ∷ xs) zero m lt = refl
got_here (x ∷ xs) (suc n) m lt = got_here xs n m (omega arith)

pub kept_here : (xs : List (Option Marked)) (n : ℕ) (m : Marked) → n < length xs → HasMarksAt (set xs n (Some m)) n m.state
kept_here xs n m lt = (m, got_here xs n m lt, refl)

pub got_else : (xs : List (Option Marked)) (n : ℕ) (m : Marked) (i : ℕ) (k : Marked)
    → slice_get (set xs n (Some m)) i ≡ Some (Some k) → (slice_get xs i ≡ Some (Some k)) ⊎ (k ≡ m)
got_else [] n m i k h = inl h
got_else (x ∷ xs) zero m zero k h = inr cc
got_else (x ∷ xs) zero m (suc i) k h = inl h
got_else (x ∷ xs) (suc n) m zero k h = inl h
got_else (x ∷ xs) (suc n) m (suc i) k h = got_else xs n m i k h

-- the place was read
pub got_read : (xs : List (Option Marked)) (n : ℕ) (o : Option Marked) (m : Marked) → n < length xs
    → o ≡ get_or xs n o → o ≡ Some m → slice_get xs n ≡ Some (Some m)
got_read xs n o m lt at is = slice_get_read xs (length xs) n o refl lt at ∙ ap Some is

-- nothing is kept
pub none_kept : (y : System) (xs : List (Option Marked)) → xs ≡ [] → AreStubborn y xs
none_kept y xs e = subst (AreStubborn y) (sym e) (λ n m h. absurd (none_some m h))
  where
    none_some : (m : Marked) → None ≡ Some (Some m) → ⊥
    none_some m h = cc

-- marks of a stubborn set were put in
pub still_stubborn : (y : System) (old new : List (Option Marked)) (k : Marked) → AreStubborn y old → PutsNoOtherMark old new k
    → Stubborn y (has_mark k.marks.items) k.state → AreStubborn y new
still_stubborn y old new k are puts here n m h = elim (puts n m h) [
  | inl was ↦ are n m was
  | inr is ↦ subst (λ (x : Marked). Stubborn y (has_mark x.marks.items) x.state) (sym is) here
]
