-- The children of an opening, operator after operator.
use Rattle.std.proofs.Common.{◌≡◌, ℕ, ◌+◌, ◌<◌, ◌≤◌, Bool, true, false, not, IsTrue, IsFalse, ◌⊎◌, inl, inr, List, [], ◌∷◌, ◌++◌, refl, subst, arith}
use Rattle.task_system.specs.System.{State, System, Listed}
use Rattle.lazy_plans.proofs.Rearranged.{in_left}
use Rattle.stubborn_sets.specs.Stubborn.{IsApplicable, Stubborn}
use Rattle.member_laws.specs.Nodes.{MetOrNone}
use Rattle.member_laws.specs.Opening.{ReachedBelow}
use Rattle.member_laws.proofs.Covering.{listed_last}

before_or : (a b : ℕ) → (a < b) ⊎ (b ≤ a)
before_or a b = grind arith

on_or_off : (b : Bool) → IsTrue b ⊎ IsTrue (not b)
on_or_off true = inl refl
on_or_off false = inr refl

module _ (y : System) (set : ℕ → Bool) (opened queue : List (List ℕ)) (e : List ℕ) (end : State) where
  -- no operator yet, whatever children there are
  pub reached_none : (kids : List (List ℕ)) → ReachedBelow y set opened queue e end 0 kids
  reached_none kids op lt = absurd (omega (arith, lt))

  -- other children come as well
  pub reached_wider : (n : ℕ) (kids more : List (List ℕ)) → ReachedBelow y set opened queue e end n kids
      → ReachedBelow y set opened queue e end n (kids ++ more)
  reached_wider n kids more r op lt on applies = elim (r op lt on applies) [
    | inl l ↦ inl (in_left kids more (e ++ op ∷ []) l)
    | inr m ↦ inr m
  ]

  -- each of the next so many is reached
  pub reached_past : (n k : ℕ) (kids : List (List ℕ)) → ReachedBelow y set opened queue e end n kids
      → ((op : ℕ) → n ≤ op → op < n + k → IsTrue (set op) → IsApplicable y op end → Listed kids (e ++ op ∷ []) ⊎ MetOrNone y opened queue (e ++ op ∷ []))
      → ReachedBelow y set opened queue e end (n + k) kids
  reached_past n k kids r more op lt on applies = elim (before_or op n) [
    | inl b ↦ r op b on applies
    | inr ge ↦ more op ge lt on applies
  ]

  -- the next one is, so the operators below the one after it are
  next : (n : ℕ) (kids : List (List ℕ)) → ReachedBelow y set opened queue e end n kids
      → (IsTrue (set n) → IsApplicable y n end → Listed kids (e ++ n ∷ []) ⊎ MetOrNone y opened queue (e ++ n ∷ []))
      → ReachedBelow y set opened queue e end (n + 1) kids
  next n kids r one = reached_past n 1 kids r (λ op ge lt. let is : n ≡ op = omega (arith, ge, lt) in subst
      (λ (a : ℕ). IsTrue (set a) → IsApplicable y a end → Listed kids (e ++ a ∷ [])
      ⊎ MetOrNone y opened queue (e ++ a ∷ [])) is one)

  -- the child by the next operator comes
  pub reached_more : (n : ℕ) (kids : List (List ℕ)) → ReachedBelow y set opened queue e end n kids
      → ReachedBelow y set opened queue e end (n + 1) (kids ++ (e ++ n ∷ []) ∷ [])
  reached_more n kids r = next n (kids ++ (e ++ n ∷ []) ∷ []) (reached_wider n kids ((e ++ n ∷ []) ∷ []) r) (λ on applies. inl (listed_last kids (e ++ n ∷ [])))

  -- it is met, or no plan goes on from it
  pub reached_met : (n : ℕ) (kids : List (List ℕ)) → ReachedBelow y set opened queue e end n kids
      → MetOrNone y opened queue (e ++ n ∷ []) → ReachedBelow y set opened queue e end (n + 1) kids
  reached_met n kids r m = next n kids r (λ on applies. inr m)

  -- the next operator isn't of the set
  pub reached_away : (n : ℕ) (kids : List (List ℕ)) → ReachedBelow y set opened queue e end n kids → IsFalse (set n)
      → ReachedBelow y set opened queue e end (n + 1) kids
  reached_away n kids r off = next n kids r (λ on applies. absurd (apart (set n) on off))
    where
      apart : (b : Bool) → IsTrue b → IsFalse b → ⊥
      apart b on off = cc

-- the operators of a set, and then all others
pub reached_all : (y : System) (set : ℕ → Bool) (opened queue : List (List ℕ)) (e : List ℕ) (end : State) (n : ℕ) (kids : List (List ℕ))
    → ReachedBelow y set opened queue e end n kids → ReachedBelow y (λ op. not (set op)) opened queue e end n kids
    → ReachedBelow y (λ op. true) opened queue e end n kids
reached_all y set opened queue e end n kids inside outside op lt on applies = elim (on_or_off (set op)) [
  | inl has ↦ inside op lt has applies
  | inr lacks ↦ outside op lt lacks applies
]

-- a set of all operators is stubborn anywhere
pub all_stubborn : (y : System) (set : ℕ → Bool) (s : State) → ((op : ℕ) → op < y.operators → IsTrue (set op)) → Stubborn y set s
all_stubborn y set s whole = record {
  first = λ a p t run goal. record {
    before = [];
    first = a;
    later = p;
    here = refl;
    inside = whole a run.1.number;
    none = tt;
    applies = (run.0, run.1);
    commutes = tt;
  };
}
