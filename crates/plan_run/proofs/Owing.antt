-- An engine that owes all plans of a mode, where the mode has another name.
use Rattle.std.proofs.Common.{◌≡◌, ℕ, List, Option, sym, subst}
use Rattle.symk_task.specs.declared.parts.Mode.{Mode}
use Rattle.symk_task.specs.declared.parts.TaskParts.{TaskParts}
use Rattle.task_system.specs.System.{System}
use Rattle.plan_run.specs.Engines.{OwesAll}

module _ {I : Type 0} {system : I → System} {mode : I → Mode} {most : I → Option ℕ} {pends : I → List ℕ → Type 0} {lawful : I → Type 0} where
  pub owes_as : {task : TaskParts} {wanted other : Mode} {limit : Option ℕ} {engine : I} → other ≡ wanted
      → OwesAll system mode most pends lawful task wanted limit engine → OwesAll system mode most pends lawful task other limit engine
  owes_as {task = task} {limit = limit} {engine = engine} e owes = subst (λ (m : Mode). OwesAll system mode most pends lawful task m limit engine) (sym e) owes
