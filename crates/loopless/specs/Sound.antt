-- What every engine meets between two calls.
use Rattle.std.specs.Prelude.{◌+◌, ◌*◌, ◌≤◌}
use Rattle.symk_task.specs.declared.parts.Mode.TheVariants.{Loopless}
use Rattle.space_api.specs.View.{View}
use Rattle.lazy_plans.specs.declared.shell.Shell.{Shell}
use Rattle.lazy_plans.specs.Shell.{shell_most, IsShellSound}
use Rattle.cost_search.specs.Directed.{Backward}
use Rattle.lazy_plans.specs.Queue.{Right, Pending}
use Rattle.loopless.specs.declared.front.Front.{Front}
use Rattle.loopless.specs.Front.{prefixes_of}
use Rattle.loopless.specs.Standing.{IsLooplessReady}

-- no more is held than twice what was needed last, and 1,000
abbrev pub IsTidyLooplessSpace : {Set : Type 0} → View Set → Type 0
IsTidyLooplessSpace v = v.held ≤ 2 * v.last + 1000

-- what every engine meets between two calls: the queue stands, and the shell is sound of what the queue owes
pub record IsLooplessSound {Set : Type 0} (v : View Set) (b : Backward Set) (f : Front) (s : Shell) : Type 0 where
  pub ready : IsLooplessReady v b f
  pub right : Right v.system Loopless (shell_most s) (prefixes_of f)
  pub shell : IsShellSound v.system Loopless (Pending v.system Loopless (prefixes_of f)) (IsTidyLooplessSpace v) s
