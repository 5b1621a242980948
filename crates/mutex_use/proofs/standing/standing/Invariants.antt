use Rattle.std.proofs.Common.{◌≡◌}
use Rattle.space_api.specs.View.{Has}
use Rattle.space_api.specs.Frames.{Stays}
use Rattle.mutex_use.specs.Rounds.{AreGroupsLeft}
use Rattle.mutex_use.proofs.standing.standing.Given as goal

abbrev pub invariant-groups : goal.invariant-groups
invariant-groups g l =
    let view = g.S.Space.view in
    record {
      task : (view l.space).task ≡ (view l.fn.space).task;
      stays : Stays (view l.fn.space) (view l.space);
      left : AreGroupsLeft l.task (Has (view l.fn.space) l.kept) l.groups l.i l.left.items;
    }
