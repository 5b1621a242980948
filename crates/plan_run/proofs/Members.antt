-- What is known of an engine that keeps a member of each class.
use Rattle.std.proofs.Common.{◌≡◌, ℕ, List, Option, Result, Ok, Err, IfOk, sym, ◌∙◌, subst}
use Rattle.symk_task.specs.declared.parts.TaskParts.{TaskParts}
use Rattle.task_system.specs.System.{System}
use Rattle.task_system.specs.Computed.{system_of}
use Rattle.selectors.specs.Members.{HasEachClass}
use Rattle.plan_run.specs.Engines.{KeepsEach}

module _ {I E : Type 0} (system : I → System) (most : I → Option ℕ) (pends : I → List ℕ → Type 0) (lawful : I → Type 0) where
  -- made over a space of the task's system, with this greatest cost or none
  pub keeps_each : (task : TaskParts) (limit : Option ℕ) {given : Option ℕ} {y : System} (r : Result I E) → y ≡ system_of task → limit ≡ given → IfOk r lawful
      → IfOk r (λ x. system x ≡ y) → IfOk r (λ x. HasEachClass y (pends x)) → IfOk r (λ x. most x ≡ given)
      → IfOk r (KeepsEach system most pends lawful task limit)
  keeps_each task limit (Ok x) own is ok same all most_is = record {
    holds = ok;
    of_task = same ∙ own;
    limited = most_is ∙ sym is;
    each = subst (λ (z : System). HasEachClass z (pends x)) (sym same) all;
  }
  keeps_each task limit (Err e) own is ok same all most_is = tt
