-- The states that a plan passes are those that it passes in the system, and so the plans of each mode are the system's.
use Rattle.std.proofs.Common.{◌≡◌, ℕ, ◌↔◌, List, [], ◌∷◌, Option, unwrap_or, refl, sym, ap, subst, ◌∙◌}
use Rattle.symk_task.specs.declared.parts.Mode.{Mode}
use Rattle.symk_task.specs.declared.parts.Mode.TheVariants.{TopK, Loopless, Unordered}
use Rattle.symk_task.specs.declared.parts.TaskParts.{TaskParts}
use Rattle.symk_task.specs.Variables.{IsState}
use Rattle.symk_task.specs.Steps.{Step}
use Rattle.symk_task.specs.Plans as meaning
use Rattle.symk_task.specs.Plans.{Trace, AllDifferent}
use Rattle.symk_task.specs.Fits.{Fits}
use Rattle.symk_task.proofs.Running.{step_state, trace_runs}
use Rattle.symk_task.proofs.Starting.{start_law, one_initial}
use Rattle.task_system.specs.System.{State, RunsInSystem, next_state, trace, IsSystemPlanOf}
use Rattle.task_system.specs.Computed.{system_of}
use Rattle.task_system.proofs.StepLaw.{step_law}
use Rattle.task_system.proofs.RunsLaw.{runs_law, plan_law}

next_is : (task : TaskParts) (s : List ℕ) (a : ℕ) (next : List ℕ) → Fits task → IsState task s → Step task s a next → next_state (system_of task) a s ≡ next
next_is task s a next fits state h = ap (λ (o : Option State). unwrap_or o s) ((step_law task s a next fits state).1 h)

trace_is : (task : TaskParts) (p s : List ℕ) (passed : List (List ℕ)) → Fits task → IsState task s → Trace task s p passed → passed ≡ trace (system_of task) s p
unfolding Trace
trace_is task [] s passed fits state h = h
trace_is task (a ∷ p) s passed fits state (next, rest, first, is, h) =
    let ih = trace_is task p next rest fits (step_state task s a next fits state first) h in
    is ∙ ap (λ (z : List (List ℕ)). s ∷ z) (ih ∙ ap (λ (z : List ℕ). trace (system_of task) z p) (sym (next_is task s a next fits state first)))

is_trace : (task : TaskParts) (p s t : List ℕ) → Fits task → IsState task s → meaning.Runs task s p t → Trace task s p (trace (system_of task) s p)
unfolding meaning.Runs Trace
is_trace task [] s t fits state h = refl
is_trace task (a ∷ p) s t fits state (next, first, rest) =
    let e = next_is task s a next fits state first in (
      next,
      trace (system_of task) (next_state (system_of task) a s) p,
      first,
      refl,
      subst (λ (z : List ℕ). Trace task next p (trace (system_of task) z p)) (sym e)
          (is_trace task p next t fits (step_state task s a next fits state first) rest),
    )

-- the trace law
pub trace_law : (task : TaskParts) (p s : List ℕ) (passed : List (List ℕ)) → Fits task → IsState task s
    → Trace task s p passed ↔ (((t : State) × RunsInSystem (system_of task) s p t) × (passed ≡ trace (system_of task) s p))
trace_law task p s passed fits state = (
  (λ h. let r = trace_runs task p s passed h in ((r.0, (runs_law task p s r.0 fits state).1 r.1), trace_is task p s passed fits state h)),
  (λ h. subst (Trace task s p) (sym h.1) (is_trace task p s h.0.0 fits state ((runs_law task p s h.0.0 fits state).0 h.0.1))),
)

-- the plan law of each mode
pub mode_law : (task : TaskParts) (mode : Mode) (p : List ℕ) → Fits task → IsSystemPlanOf (system_of task) mode p ↔ meaning.IsPlanOf task mode p
mode_law task TopK p fits = plan_law task p fits
mode_law task Unordered p fits = plan_law task p fits
mode_law task Loopless p fits =
    let first : State = (system_of task).initial in
    let i = start_law task fits in (
      (λ h.
          let plan = (plan_law task p fits).0 h.0 in
          let e : plan.0 ≡ first = one_initial task plan.0 first plan.2 i in
          let run = subst (λ (z : List ℕ). meaning.Runs task z p plan.1) e plan.3 in
          (plan, first, trace (system_of task) first p, i, is_trace task p first plan.1 fits i.state run, h.1)),
      (λ h.
          let e : h.1 ≡ first = one_initial task h.1 first h.3 i in
          let is = trace_is task p first h.2 fits i.state (subst (λ (z : List ℕ). Trace task z p h.2) e h.4) in
          ((plan_law task p fits).1 h.0, subst AllDifferent is h.5)),
    )
