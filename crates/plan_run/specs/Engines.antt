-- What a list asks of the engine that gives its plans.
use Rattle.std.specs.Prelude.{◌≡◌, ℕ, List, Option}
use Rattle.symk_task.specs.declared.parts.Mode.{Mode}
use Rattle.symk_task.specs.declared.parts.TaskParts.{TaskParts}
use Rattle.task_system.specs.System.{System, IsSystemPlanOf}
use Rattle.task_system.specs.Computed.{system_of}
use Rattle.lazy_plans.specs.Rest.{Rest}
use Rattle.selectors.specs.Members.{HasEachClass}

module _ {I : Type 0} (system : I → System) (mode : I → Mode) (most : I → Option ℕ) (pends : I → List ℕ → Type 0) (lawful : I → Type 0) where
  -- It is lawful, gives plans of the task in a mode, and has this greatest cost, or none.
  pub record Serves (task : TaskParts) (wanted : Mode) (limit : Option ℕ) (engine : I) : Type 0 where
    pub holds : lawful engine
    pub of_task : system engine ≡ system_of task
    pub in_mode : mode engine ≡ wanted
    pub limited : most engine ≡ limit

  -- And it has given none: each plan of the task in the mode pends.
  pub record OwesAll (task : TaskParts) (wanted : Mode) (limit : Option ℕ) (engine : I) : Type 0 where
    pub serves : Serves task wanted limit engine
    pub all : (p : List ℕ) → IsSystemPlanOf (system_of task) wanted p → pends engine p

  -- Or it has given those of an earlier list: each plan of the task in the mode pends that counts as one with none of them.
  pub record OwesRest (task : TaskParts) (wanted : Mode) (limit : Option ℕ) (earlier : List (List ℕ)) (engine : I) : Type 0 where
    pub serves : Serves task wanted limit engine
    pub rest : Rest (system_of task) wanted earlier (pends engine)

-- What one plan of each class of rearrangements asks of the engine below it.
module _ {I : Type 0} (system : I → System) (most : I → Option ℕ) (pends : I → List ℕ → Type 0) (lawful : I → Type 0) where
  -- It is lawful, its plans are the task's, it has this greatest cost, or none, and of each class a plan pends.
  pub record KeepsEach (task : TaskParts) (limit : Option ℕ) (engine : I) : Type 0 where
    pub holds : lawful engine
    pub of_task : system engine ≡ system_of task
    pub limited : most engine ≡ limit
    pub each : HasEachClass (system engine) (pends engine)
