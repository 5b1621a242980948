-- What an engine owes with the plan that its shell holds, and what the shell hands out.
use Rattle.std.specs.Prelude.{◌≡◌, ◌⊎◌, Bool, true, false, List, ℕ, Option, Some, None, Result, Ok, Err, IfOk}
use Rattle.symk_task.specs.declared.parts.Mode.{Mode}
use Rattle.task_system.specs.System.{System, IsSystemPlanOf, are_equal}
use Rattle.lazy_plans.specs.Law.{Last, Ended, Turned, last_of}
use Rattle.lazy_plans.specs.declared.stop.Stop.{Stop}
use Rattle.lazy_plans.specs.declared.stop.Stop.TheVariants.{Memory}
use Rattle.lazy_plans.specs.declared.stop.Ending.TheVariants.{Exhausted, StoppedBy}
use Rattle.lazy_plans.specs.declared.shell.Shell.{Shell}

-- what the engine owes, and the plan that is held
abbrev pub OwesHeld : (List ℕ → Type 0) → Option (List ℕ) → List ℕ → Type 0
OwesHeld owed held p = owed p ⊎ (held ≡ Some p)

abbrev pub tells_held : Option (List ℕ) → List ℕ → Bool
tells_held None p = false
tells_held (Some q) p = are_equal q p

-- a plan is held only where out of memory ended the engine
abbrev pub IsHeld : System → Mode → Option (List ℕ) → Last → Type 0
IsHeld y m None ended = Unit {0}
IsHeld y m (Some p) ended = IsSystemPlanOf y m p × (ended ≡ Some (StoppedBy Memory))

-- the greatest cost that is wanted, or none
abbrev pub shell_most : Shell → Option ℕ
shell_most x = x.most

-- the plan that is held, or none
abbrev pub shell_held : Shell → Option (List ℕ)
shell_held x = x.held

-- the answer that ended it, which every later call repeats; none, while it goes on
abbrev pub shell_ended : Shell → Last
shell_ended x = x.ended

-- nothing was asked of it yet
pub record IsNewShell (most : Option ℕ) (x : Shell) : Type 0 where
  pub wanted : x.most ≡ most
  pub free : x.held ≡ None
  pub goes_on : x.ended ≡ None

-- what is answered where this was found, and whether the space was tidied then
abbrev pub shell_answer : Option (List ℕ) → Bool → Result (Option (List ℕ)) Stop
shell_answer found true = Ok found
shell_answer found false = Err Memory

-- what is held then
abbrev pub shell_keeps : Option (List ℕ) → Bool → Option (List ℕ)
shell_keeps found true = None
shell_keeps found false = found

-- it gave this answer, and holds this
pub record HandsOut (x z : Shell) (answer : Result (Option (List ℕ)) Stop) (held : Option (List ℕ)) : Type 0 where
  pub wanted : z.most ≡ x.most
  pub holds : z.held ≡ held
  pub last : z.ended ≡ last_of answer

-- what every engine meets between two calls: what was answered last still holds, and where no plan was left the space is tidy
pub record IsShellSound (y : System) (m : Mode) (owed : List ℕ → Type 0) (tidy : Type 0) (x : Shell) : Type 0 where
  pub holds : IsHeld y m x.held x.ended
  pub said : Ended y x.most (OwesHeld owed x.held) x.ended
  pub room : x.ended ≡ Some Exhausted → tidy

-- what one call gives: the law, and a tidy space after a plan or None
pub record ShellAnswers (y : System) (m : Mode) (before after : List ℕ → Type 0) (tidy : Type 0) (x z : Shell)
    (result : Result (Option (List ℕ)) Stop) : Type 0 where
  pub sound : IsShellSound y m after tidy z
  pub law : Turned y m x.most (OwesHeld before x.held) (OwesHeld after z.held) result
  pub last : z.ended ≡ last_of result
  pub room : IfOk result (λ o. tidy)
