-- A right list stays right when a plan is added that is not listed, all cheaper ones being listed.
use Rattle.std.proofs.Common.{◌≡◌, ℕ, zero, suc, ◌+◌, ◌-◌, ◌<◌, ◌≤◌, ◌⊎◌, inl, inr, List, [], ◌∷◌, ◌++◌, length, map, get_or, Option, Some, None, IfSome, slice_get, refl, sym, subst, ◌∙◌, arith}
use Rattle.std.specs.List.{Any}
use Rattle.std.specs.List.Sorted.{IsNonDecreasing}
use Rattle.std.proofs.lemmas.Bool.{cases_lt}
use Rattle.std.proofs.lemmas.List.{map-append, length-map, get_or-map, get_or_append_left, length-append}
use Rattle.std.proofs.lemmas.List.Elements.{All-nil, All-push}
use Rattle.std.proofs.lemmas.List.Sorted.{IsNonDecreasingBy-short, IsNonDecreasingBy-push}
use Rattle.std.proofs.lemmas.Option.{slice_get-get_or, get_or_from_slice_get}
use Rattle.symk_task.specs.declared.parts.Mode.{Mode}
use Rattle.symk_task.specs.declared.parts.Mode.TheVariants.{TopK, Loopless, Unordered}
use Rattle.symk_task.specs.Plans.{Same, IsListed}
use Rattle.task_system.specs.Lists.{IsAmong, IsRightList}
use Rattle.task_system.specs.System.{System, cost_in_system, IsSystemPlanOf, IsRightOfSystem}

slice_get_left : {X : Type 0} (xs : List X) (x : X) (i : ℕ) → i < length xs → slice_get (xs ++ x ∷ []) i ≡ slice_get xs i
slice_get_left [] x i lt = absurd (omega arith)
slice_get_left (y ∷ xs) x zero lt = refl
slice_get_left (y ∷ xs) x (suc i) lt = slice_get_left xs x i (omega arith)

slice_get_last : {X : Type 0} (xs : List X) (x : X) (i : ℕ) → i ≡ length xs → slice_get (xs ++ x ∷ []) i ≡ Some x
slice_get_last [] x zero e = refl
slice_get_last [] x (suc i) e = absurd (omega arith)
slice_get_last (y ∷ xs) x zero e = absurd (omega arith)
slice_get_last (y ∷ xs) x (suc i) e = slice_get_last xs x i (omega arith)

length_push : {X : Type 0} (xs : List X) (x : X) → length (xs ++ x ∷ []) ≡ length xs + 1
length_push xs x = length-append xs (x ∷ [])

any_left : {X : Type 0} (P : X → Type 0) (xs : List X) (y : X) → Any P xs → Any P (xs ++ y ∷ [])
any_left P xs y (k, x, lt, is, h) = (k, x, omega (arith, length_push xs y, lt), get_or_append_left xs (y ∷ []) x k lt ∙ is, h)

-- either there is one at the place, or none
at_place : {X : Type 0} (P : X → Type 0) (o : Option X) → ((x : X) → o ≡ Some x → P x) → IfSome o P
at_place P None f = tt
at_place P (Some x) f = f x refl

if_at : {X : Type 0} (P : X → Type 0) (o : Option X) (x : X) → o ≡ Some x → IfSome o P → P x
if_at P o x e h = subst (λ z. IfSome z P) e h

module _ (Plan : List ℕ → Type 0) (Alike : List ℕ → List ℕ → Type 0) (cost : List ℕ → ℕ) where
  pub none_right : IsRightList Plan Alike cost []
  none_right = record {
    each = All-nil Plan;
    different = λ i j lt within. absurd (omega arith);
    costs = IsNonDecreasingBy-short (λ x. x) [] (omega arith);
    cheapest = tt;
  }

  -- what is cheaper than the last member is listed, so a plan that isn't listed costs as much
  last_cost : (plans : List (List ℕ)) (p : List ℕ) → IsRightList Plan Alike cost plans → Plan p
      → ¬ IsAmong Alike plans p → (d : ℕ) → 0 < length (map cost plans)
      → get_or (map cost plans) (length (map cost plans) - 1) d ≤ cost p
  last_cost plans p h plan off d some =
      let n : length (map cost plans) ≡ length plans = length-map plans cost in
      let lt : length plans - 1 < length plans = omega (arith, n, some) in
      let dearest : List ℕ = get_or plans (length plans - 1) p in
      let is : slice_get plans (length plans - 1) ≡ Some dearest = slice_get-get_or plans (length plans - 1) p lt in
      let cheapest = if_at (λ dearest. (q : List ℕ) → Plan q → cost q < cost dearest → IsAmong Alike plans q)
      (slice_get plans (length plans - 1)) dearest is h.cheapest in
      let here : get_or (map cost plans) (length plans - 1) d ≡ cost dearest = get_or-map cost plans (length plans - 1) p d lt in
      let le : cost dearest ≤ cost p = elim (cases_lt (cost p) (cost dearest)) [ inl less ↦ absurd (off (cheapest p plan less)) | inr more ↦ more ] in
      rw n (omega (arith, here, le))

  pub more_right : ((p q : List ℕ) → Alike p q → Alike q p) → (plans : List (List ℕ)) (p : List ℕ)
      → IsRightList Plan Alike cost plans → Plan p → ¬ IsAmong Alike plans p
      → ((q : List ℕ) → Plan q → cost q < cost p → IsAmong Alike plans q) → IsRightList Plan Alike cost (plans ++ p ∷ [])
  more_right flip plans p h plan off cheaper = record {
    each = All-push Plan plans p h.each plan;
    different = apart;
    costs = subst IsNonDecreasing (sym (map-append cost plans (p ∷ [])))
        (IsNonDecreasingBy-push (λ x. x) (map cost plans) (cost p) h.costs (last_cost plans p h plan off));
    cheapest = subst (λ o. IfSome o (λ dearest. (q : List ℕ) → Plan q → cost q < cost dearest → IsAmong Alike (plans ++ p ∷ []) q))
        (sym (slice_get_last plans p (length (plans ++ p ∷ []) - 1) (omega (arith, length_push plans p))))
        (λ q other lt. any_left (Alike q) plans p (cheaper q other lt));
  }
    where
      -- the last place, or one before it
      last_or : (j : ℕ) → j < length (plans ++ p ∷ []) → (j < length plans) ⊎ (j ≡ length plans)
      last_or j within = elim (cases_lt j (length plans)) [ inl lt ↦ inl lt | inr le ↦ inr (omega (arith, length_push plans p, within, le)) ]

      apart : (i j : ℕ) → i < j → j < length (plans ++ p ∷ [])
          → IfSome (slice_get (plans ++ p ∷ []) i) (λ a. IfSome (slice_get (plans ++ p ∷ []) j) (λ b. ¬ Alike a b))
      apart i j lt within = elim (last_or j within) [
        | inl inner ↦ (
            let first : i < length plans = omega (arith, lt, inner) in
            rw (slice_get_left plans p i first, slice_get_left plans p j inner) (h.different i j lt inner))
        | inr e ↦ (
            let first : i < length plans = omega (arith, lt, e) in
            rw (slice_get_left plans p i first, slice_get_last plans p j e)
            (at_place (λ a. ¬ Alike a p) (slice_get plans i) (λ a is alike. off (i, a, first, get_or_from_slice_get plans i a a is, flip a p alike))))
      ]

same_flip : (mode : Mode) (p q : List ℕ) → Same mode p q → Same mode q p
same_flip TopK p q h = sym h
same_flip Loopless p q h = sym h
same_flip Unordered p q h = (λ a. sym (h a))

-- a right list of a system grows by its cheapest plan that isn't listed
pub grow_law : (system : System) (mode : Mode) (plans : List (List ℕ)) (p : List ℕ) → IsRightOfSystem system mode plans
    → IsSystemPlanOf system mode p → ¬ IsListed mode plans p
    → ((q : List ℕ) → IsSystemPlanOf system mode q → cost_in_system system q < cost_in_system system p
    → IsListed mode plans q) → IsRightOfSystem system mode (plans ++ p ∷ [])
grow_law system mode plans p = more_right (IsSystemPlanOf system mode) (Same mode) (cost_in_system system) (same_flip mode) plans p
