-- The test tells which plans count as one.
use Rattle.std.proofs.Common.{◌≡◌, ℕ, suc, ◌+◌, ◌⊎◌, inl, inr, ◌==◌, ◌&&◌, cond, List, [], ◌∷◌, ◌++◌, refl, sym, ◌∙◌, arith}
use Rattle.std.specs.Bool.{Decides}
use Rattle.std.specs.List.{All, Contains, count_by, list_all}
use Rattle.std.proofs.lemmas.Bool.{false≢true, cases_eq, ne_eqb}
use Rattle.std.proofs.lemmas.Bool.Decides.{Decides-eqb, Decides-and, Decides-like, Decides-by_and}
use Rattle.std.proofs.lemmas.List.Elements.{All-contains, Contains-append_left, Contains-append_right}
use Rattle.std.proofs.lemmas.List.Sums.{sum_by-cons}
use Rattle.symk_task.specs.declared.parts.Mode.{Mode}
use Rattle.symk_task.specs.declared.parts.Mode.TheVariants.{TopK, Loopless, Unordered}
use Rattle.symk_task.specs.Plans.{Same}
use Rattle.task_system.specs.System.{are_equal, same}

are_equal_decides : (p q : List ℕ) → Decides (are_equal p q) (p ≡ q)
are_equal_decides [] [] = ((λ _. refl), (λ _. refl))
are_equal_decides [] (b ∷ q) = ((λ e. absurd (false≢true e)), (λ e. cc))
are_equal_decides (a ∷ p) [] = ((λ e. absurd (false≢true e)), (λ e. cc))
are_equal_decides (a ∷ p) (b ∷ q) =
    Decides-like ((a == b) && are_equal p q) (λ h. let x = h.0 in let y = h.1 in cc)
    (λ e. (heads a b p q e, tails a b p q e)) (Decides-and (a == b) (are_equal p q) (Decides-eqb a b)
    (are_equal_decides p q))
  where
    heads : (a b : ℕ) (p q : List ℕ) → a ∷ p ≡ b ∷ q → a ≡ b
    heads a b p q e = cc

    tails : (a b : ℕ) (p q : List ℕ) → a ∷ p ≡ b ∷ q → p ≡ q
    tails a b p q e = cc

-- how often an operator stands in a list
abbrev times : ℕ → List ℕ → ℕ
times a p = count_by (λ b. a == b) p

-- it stands there, or never
stands_or_never : (a : ℕ) (p : List ℕ) → Contains p a ⊎ (times a p ≡ 0)
stands_or_never a [] = inr refl
stands_or_never a (b ∷ p) = elim (cases_eq a b) [
  | inl e ↦ inl (0, omega arith, sym e)
  | inr ne ↦ elim (stands_or_never a p) [
    | inl h ↦ inl (suc h.0, omega (arith, h.1), h.2)
    | inr none ↦ inr (let step : times a (b ∷ p) ≡ cond (a == b) 1 0 + times a p =
        sum_by-cons (λ b. cond (a == b) 1 0) b p in step ∙ rw (ne_eqb a b ne) (omega (arith, none)))
  ]
]

as_often : (p q : List ℕ) → All (λ a. times a p ≡ times a q) (p ++ q) → (a : ℕ) → times a p ≡ times a q
as_often p q h a = elim (stands_or_never a p) [
  | inl here ↦ All-contains (λ a. times a p ≡ times a q) (p ++ q) a h (Contains-append_left p q a here)
  | inr none ↦ elim (stands_or_never a q) [
    | inl here ↦ All-contains (λ a. times a p ≡ times a q) (p ++ q) a h (Contains-append_right p q a here)
    | inr never ↦ none ∙ sym never
  ]
]

-- the same law
pub same_law : (mode : Mode) (p q : List ℕ) → Decides (same mode p q) (Same mode p q)
same_law TopK p q = are_equal_decides p q
same_law Loopless p q = are_equal_decides p q
same_law Unordered p q =
    Decides-like (list_all (λ a. times a p == times a q) (p ++ q)) (as_often p q) (λ h k d lt. h _)
    (Decides-by_and (λ a. times a p == times a q) (λ a. times a p ≡ times a q)
    (list_all (λ a. times a p == times a q)) (λ a. Decides-eqb (times a p) (times a q)) refl
    (λ _ _. refl) (p ++ q))
