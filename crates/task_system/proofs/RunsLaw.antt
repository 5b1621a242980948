-- The runs, plans and costs of a task are those of its system.
use Rattle.std.proofs.Common.{◌≡◌, ℕ, ◌+◌, ◌↔◌, List, [], ◌∷◌, map, refl, sym, ap, subst, ◌∙◌}
use Rattle.std.specs.List.{All}
use Rattle.std.proofs.lemmas.List.Sums.{sum_by-cons}
use Rattle.symk_task.specs.declared.parts.TaskParts.{TaskParts}
use Rattle.symk_task.specs.Variables.{IsState}
use Rattle.symk_task.specs.Steps.{Holds, Allows, Step, cost_at}
use Rattle.symk_task.specs.Plans as meaning
use Rattle.symk_task.specs.Fits.{Fits}
use Rattle.symk_task.proofs.Places.{within_some}
use Rattle.symk_task.proofs.Running.{step_state}
use Rattle.symk_task.proofs.Starting.{start_law, one_initial}
use Rattle.task_system.specs.System.{State, Listed, Leads, RunsInSystem, cost_in_system, IsSystemPlan}
use Rattle.task_system.specs.Computed.{system_of}
use Rattle.task_system.proofs.StepLaw.{step_law, goal_law}
use Rattle.task_system.proofs.StatesLaw.{states_law}

pub leads_law : (task : TaskParts) (s : List ℕ) (a : ℕ) (t : List ℕ) → Fits task → IsState task s → Leads (system_of task) a s t ↔ Step task s a t
leads_law task s a t fits state =
    let l = step_law task s a t fits state in (
      (λ h. l.0 h.step),
      (λ h. record {
        number = within_some (λ operator. All (Holds task s) operator.prevail × All (Allows task s)
            operator.effects) task.operators a h.0;
        step = l.1 h;
      }),
    )

-- a run begins in a listed state
pub start_listed : (task : TaskParts) → Fits task → Listed (system_of task).states (system_of task).initial
start_listed task fits = (states_law task (system_of task).initial).0 (start_law task fits).state

-- and passes listed states alone
pub leads_listed : (task : TaskParts) (s : List ℕ) (a : ℕ) (t : List ℕ) → Fits task → Listed (system_of task).states s
    → Leads (system_of task) a s t → Listed (system_of task).states t
leads_listed task s a t fits from h =
    let state = (states_law task s).1 from in
    (states_law task t).0 (step_state task s a t fits state ((leads_law task s a t fits state).0 h))

-- the runs law
pub runs_law : (task : TaskParts) (p : List ℕ) (s t : List ℕ) → Fits task → IsState task s → RunsInSystem (system_of task) s p t ↔ meaning.Runs task s p t
unfolding meaning.Runs
runs_law task [] s t fits state = ((λ e. e), (λ e. e))
runs_law task (a ∷ p) s t fits state = (
  (λ h. let k = (leads_law task s a h.0 fits state).0 h.1 in (h.0, k, (runs_law task p h.0 t fits (step_state task s a h.0 fits state k)).0 h.2)),
  (λ h. (h.0, (leads_law task s a h.0 fits state).1 h.1, (runs_law task p h.0 t fits (step_state task s a h.0 fits state h.1)).1 h.2)),
)

-- the plan law
pub plan_law : (task : TaskParts) (p : List ℕ) → Fits task → IsSystemPlan (system_of task) p ↔ meaning.IsPlan task p
plan_law task p fits =
    let first : State = (system_of task).initial in
    let i = start_law task fits in (
      (λ h. (first, h.0, i, (runs_law task p first h.0 fits i.state).0 h.1, (goal_law task h.0 fits).0 h.2)),
      (λ h.
          let e : h.0 ≡ first = one_initial task h.0 first h.2 i in
          (h.1, (runs_law task p first h.1 fits i.state).1 (subst (λ (z : List ℕ). meaning.Runs task z p h.1) e h.3), (goal_law task h.1 fits).1 h.4)),
    )

-- the cost law
pub cost_law : (task : TaskParts) (p : List ℕ) → cost_in_system (system_of task) p ≡ meaning.cost_of task p
cost_law task [] = refl
cost_law task (a ∷ p) = ap (λ (z : ℕ). cost_at task a + z) (cost_law task p) ∙ sym (sum_by-cons (λ (x : ℕ). x) (cost_at task a) (map (cost_at task) p))
