-- Runs that get one operator more at the end.
use Rattle.std.proofs.Common.{ℕ, ◌+◌, ◌<◌, List, [], ◌∷◌, ◌++◌, length, get_or, take, refl, sym, subst}
use Rattle.std.proofs.lemmas.List.{take_more}
use Rattle.symk_task.specs.declared.parts.TaskParts.{TaskParts}
use Rattle.symk_task.specs.Steps.{Step}
use Rattle.symk_task.specs.Plans.{Runs}

pub runs_none : (task : TaskParts) (s : List ℕ) → Runs task s [] s
unfolding Runs
runs_none task s = refl

runs_append : (task : TaskParts) (s : List ℕ) (p : List ℕ) (m : List ℕ) (a : ℕ) (t : List ℕ) → Runs task s p m → Step task m a t → Runs task s (p ++ a ∷ []) t
unfolding Runs
runs_append task s [] m a t e h = (t, subst (λ (x : List ℕ). Step task x a t) (sym e) h, refl)
runs_append task s (b ∷ p) m a t (n, first, rest) h = (n, first, runs_append task n p m a t rest h)

pub runs_more : (task : TaskParts) (s p : List ℕ) (i : ℕ) (m t : List ℕ) → i < length p → Runs task s (take i p) m
    → Step task m (get_or p i 0) t → Runs task s (take (i + 1) p) t
runs_more task s p i m t lt h step = subst (λ (q : List ℕ). Runs task s q t) (sym (take_more p i 0 lt))
    (runs_append task s (take i p) m (get_or p i 0) t h step)
