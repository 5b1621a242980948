use Rattle.std.proofs.Common.{◌≡◌, ◌↔◌, take}
use Rattle.task_system.specs.System.{State}
use Rattle.space_api.specs.View.{Has}
use Rattle.space_api.specs.Owned.{Trades}
use Rattle.mutex_use.specs.Groups.{IsKeeper}
use Rattle.mutex_use.proofs.keepers.keep_each.Given as goal

abbrev pub invariant-groups : goal.invariant-groups
invariant-groups g l =
    let view = g.S.Space.view in
    record {
      task : (view l.space).task ≡ (view l.fn.space).task;
      made : Trades (view l.fn.space) (view l.space) (λ a. ⊥) (λ a. a ≡ l.kept);
      means : (s : State) → Has (view l.space) l.kept s ↔ IsKeeper l.task (take l.i l.groups) s;
    }
