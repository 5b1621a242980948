use Rattle.std.proofs.Common.{◌≡◌}
use Rattle.space_api.specs.Owned.{Trades}
use Rattle.mutex_use.proofs.Alone.{HasKeepers}
use Rattle.mutex_use.proofs.joining.join_each.Given as goal

abbrev pub invariant-groups : goal.invariant-groups
invariant-groups g l =
    let view = g.S.Space.view in
    record {
      task : (view l.space).task ≡ (view l.fn.space).task;
      made : Trades (view l.fn.space) (view l.space) (λ a. ⊥) (λ a. a ≡ l.kept);
      means : HasKeepers (view l.space) l.task l.kept;
    }
