-- What every engine meets between two calls.
use Rattle.std.specs.Prelude.{◌≡◌}
use Rattle.symk_task.specs.declared.parts.Mode.TheVariants.{TopK}
use Rattle.space_api.specs.View.{View}
use Rattle.lazy_plans.specs.declared.shell.Shell.{Shell}
use Rattle.lazy_plans.specs.Shell.{shell_most, IsShellSound}
use Rattle.cost_to_go.specs.Standing.{to_go_within}
use Rattle.cost_to_go.specs.declared.search.CostToGo.{CostToGo}
use Rattle.lazy_plans.specs.Queue.{Right, Pending}
use Rattle.prefix_plans.specs.Owned.{IsTidyEndSpace}
use Rattle.prefix_plans.specs.Standing.{waiting_prefixes, PrefixFrontStands}
use Rattle.prefix_plans.specs.declared.front.Front.{Front}

-- what every engine meets between two calls: the queue stands, and the shell is sound of what the queue owes
pub record IsPrefixSound {Set : Type 0} (v : View Set) (f : CostToGo Set) (within : Set) (x : Front) (s : Shell) : Type 0 where
  pub ready : PrefixFrontStands v f x
  pub kept : within ≡ to_go_within f
  pub right : Right v.system TopK (shell_most s) (waiting_prefixes x)
  pub shell : IsShellSound v.system TopK (Pending v.system TopK (waiting_prefixes x)) (IsTidyEndSpace v) s
