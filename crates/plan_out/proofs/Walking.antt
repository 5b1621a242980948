-- Runs with the states that they left.
use Rattle.std.proofs.Common.{◌≡◌, ℕ, suc, ◌+◌, ◌<◌, List, [], ◌∷◌, ◌++◌, length, get_or, take, refl, sym, ap, subst, ◌∙◌}
use Rattle.std.proofs.lemmas.List.{take_more}
use Rattle.symk_task.specs.declared.parts.TaskParts.{TaskParts}
use Rattle.symk_task.specs.Steps.{Step}
use Rattle.symk_task.specs.Plans.{Runs, Trace}

-- the operators lead from one state to the other, and leave these one after the other
abbrev pub Walks : TaskParts → List ℕ → List ℕ → List (List ℕ) → List ℕ → Type 0
Walks task s [] left t = (left ≡ []) × (s ≡ t)
Walks task s (a ∷ p) left t = (next : List ℕ) × (rest : List (List ℕ)) × Step task s a next × (left ≡ s ∷ rest) × Walks task next p rest t

pub walks_none : (task : TaskParts) (s : List ℕ) → Walks task s [] [] s
walks_none task s = (refl, refl)

walks_append : (task : TaskParts) (s p : List ℕ) (left : List (List ℕ)) (m : List ℕ) (a : ℕ) (t : List ℕ)
    → Walks task s p left m → Step task m a t → Walks task s (p ++ a ∷ []) (left ++ m ∷ []) t
walks_append task s [] left m a t (none, e) step = (
  t,
  [],
  subst (λ (x : List ℕ). Step task x a t) (sym e) step,
  ap (λ (xs : List (List ℕ)). xs ++ m ∷ []) none
      ∙ ap (λ (x : List ℕ). x ∷ []) (sym e),
  (refl, refl),
)
walks_append task s (b ∷ p) left m a t (next, rest, first, is, h) step =
    (next, rest ++ m ∷ [], first, ap (λ (xs : List (List ℕ)). xs ++ m ∷ []) is, walks_append task next p rest m a t h step)

pub walks_more : (task : TaskParts) (s p : List ℕ) (i : ℕ) (left : List (List ℕ)) (m t : List ℕ) → i < length p
    → Walks task s (take i p) left m → Step task m (get_or p i 0) t
    → Walks task s (take (i + 1) p) (left ++ m ∷ []) t
walks_more task s p i left m t lt h step = subst (λ (q : List ℕ). Walks task s q (left ++ m ∷ []) t)
    (sym (take_more p i 0 lt)) (walks_append task s (take i p) left m (get_or p i 0) t h step)

pub walks_run : (task : TaskParts) (s p : List ℕ) (left : List (List ℕ)) (t : List ℕ) → Walks task s p left t → Runs task s p t
unfolding Runs
walks_run task s [] left t h = h.1
walks_run task s (a ∷ p) left t (next, rest, first, is, h) = (next, first, walks_run task next p rest t h)

pub walks_trace : (task : TaskParts) (s p : List ℕ) (left : List (List ℕ)) (t : List ℕ) → Walks task s p left t → Trace task s p (left ++ t ∷ [])
unfolding Trace
walks_trace task s [] left t (none, e) = ap (λ (xs : List (List ℕ)). xs ++ t ∷ []) none ∙ ap (λ (x : List ℕ). x ∷ []) (sym e)
walks_trace task s (a ∷ p) left t (next, rest, first, is, h) =
    (next, rest ++ t ∷ [], first, ap (λ (xs : List (List ℕ)). xs ++ t ∷ []) is, walks_trace task next p rest t h)

pub walks_length : (task : TaskParts) (s p : List ℕ) (left : List (List ℕ)) (t : List ℕ) → Walks task s p left t → length left ≡ length p
walks_length task s [] left t (none, e) = ap (λ (xs : List (List ℕ)). length xs) none
walks_length task s (a ∷ p) left t (next, rest, first, is, h) = ap (λ (xs : List (List ℕ)). length xs) is
    ∙ ap (λ (n : ℕ). suc n) (walks_length task next p rest t h)
