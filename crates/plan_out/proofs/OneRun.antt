-- A list of operators has one run.
use Rattle.std.proofs.Common.{◌≡◌, ℕ, zero, suc, ◌<◌, List, [], ◌∷◌, length, get_or, take, Some, None, refl, sym, subst, arith}
use Rattle.std.specs.Prelude.{All}
use Rattle.symk_task.specs.declared.parts.Mode.{Mode}
use Rattle.symk_task.specs.declared.parts.Mode.TheVariants.{TopK, Loopless, Unordered}
use Rattle.symk_task.specs.declared.parts.TaskParts.{TaskParts}
use Rattle.symk_task.specs.Fits.{Fits}
use Rattle.symk_task.specs.Variables.{IsState}
use Rattle.symk_task.specs.Steps.{Holds, Applies}
use Rattle.symk_task.specs.Plans.{Runs, Trace, IsPlan}
use Rattle.symk_task.proofs.OneState.{one_state}
use Rattle.symk_task.proofs.Running.{step_state, one_end, one_trace}
use Rattle.symk_task.proofs.Starting.{one_initial}
use Rattle.task_run.specs.Verdicts.{Stops, Misses}
use Rattle.plan_out.specs.Fails.{IsFirstReturn, IsFirstLoop}
use Rattle.plan_out.specs.Checks.{WalksBack}

-- each operator of a run applies where the ones before it lead
applies_on_the_way : (task : TaskParts) (p s t u : List ℕ) (i : ℕ) → Fits task → IsState task s → Runs task s p t
    → i < length p → Runs task s (take i p) u → Applies task u (get_or p i 0)
unfolding Runs
applies_on_the_way task [] s t u i fits state runs lt h = absurd (omega arith)
applies_on_the_way task (a ∷ p) s t u zero fits state (next, first, rest) lt h = subst (λ (z : List ℕ). Applies task z a) h first.0
applies_on_the_way task (a ∷ p) s t u (suc i) fits state (m, first, rest) lt (n, second, last) =
    let same : m ≡ n = one_state task s m n a state first.1 second.1 in
    applies_on_the_way task p m t u i fits (step_state task s a m fits state first) rest (omega arith)
    (subst (λ (z : List ℕ). Runs task z (take i p) u) (sym same) last)

pub plan_no_stop : (task : TaskParts) (p : List ℕ) → Fits task → IsPlan task p → (i : ℕ) → ¬ Stops task p i
plan_no_stop task p fits (s, t, initial, runs, reached) i h =
    h.stuck (applies_on_the_way task p h.s t h.t i fits h.initial.state
    (subst (λ (z : List ℕ). Runs task z p t) (one_initial task s h.s initial h.initial) runs) h.within h.runs)

pub miss_no_stop : (task : TaskParts) (p : List ℕ) → Fits task → Misses task p → (i : ℕ) → ¬ Stops task p i
miss_no_stop task p fits m i h =
    h.stuck (applies_on_the_way task p h.s m.t h.t i fits h.initial.state
    (subst (λ (z : List ℕ). Runs task z p m.t) (one_initial task m.s h.s m.initial h.initial) m.runs) h.within
    h.runs)

pub plan_no_miss : (task : TaskParts) (p : List ℕ) → Fits task → IsPlan task p → ¬ Misses task p
plan_no_miss task p fits (s, t, initial, runs, reached) m =
    let there : Runs task m.s p t = subst (λ (z : List ℕ). Runs task z p t) (one_initial task s m.s initial m.initial) runs in
    m.missed (subst (λ (z : List ℕ). All (Holds task z) task.goal) (one_end task p m.s t m.t fits m.initial.state there m.runs) reached)

-- a run that does not walk back has no first loop
pub no_loop : (task : TaskParts) (mode : Mode) (p : List ℕ) → Fits task → WalksBack task mode p None → (step : ℕ)
    → ¬ ((mode ≡ Loopless) × IsFirstLoop task p step)
no_loop task TopK p fits h step k = (let e : TopK ≡ Loopless = k.0 in cc)
no_loop task Unordered p fits h step k = (let e : Unordered ≡ Loopless = k.0 in cc)
no_loop task Loopless p fits (s, passed, initial, trace, fresh) step (e, (other, walked, start, along, first)) =
    let there : Trace task other p passed = subst (λ (z : List ℕ). Trace task z p passed) (one_initial task s other initial start) trace in
    let same : walked ≡ passed = one_trace task p other walked passed fits start.state along there in
    let f = subst (λ (xs : List (List ℕ)). IsFirstReturn xs step) same first in
    fresh step f.within f.here

-- a run that walks back has a first loop, and the mode asks for it
pub first_loop : (task : TaskParts) (mode : Mode) (p : List ℕ) (step : ℕ) → WalksBack task mode p (Some step) → (mode ≡ Loopless) × IsFirstLoop task p step
first_loop task TopK p step h = (let e : Some step ≡ None = h in cc)
first_loop task Unordered p step h = (let e : Some step ≡ None = h in cc)
first_loop task Loopless p step h = (refl, h)
