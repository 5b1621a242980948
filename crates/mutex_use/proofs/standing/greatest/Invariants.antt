use Rattle.std.proofs.Common.{◌≡◌, All, vec_len}
use Rattle.std.specs.List.Sorted.{IsStrictlyIncreasing}
use Rattle.space_api.specs.Frames.{Stays}
use Rattle.mutex_use.specs.Groups.{IsBaseGroup, CoversAll}
use Rattle.mutex_use.proofs.standing.greatest.Given as goal

abbrev pub invariant-rounds : goal.invariant-rounds
invariant-rounds g l =
    let view = g.S.Space.view in
    record {
      task : (view l.space).task ≡ (view l.fn.space).task;
      stays : Stays (view l.fn.space) (view l.space);
      base : All (IsBaseGroup l.task) l.groups.items;
      rising : IsStrictlyIncreasing l.groups.items;
      covers : CoversAll l.task l.groups.items;
    }

abbrev pub decreases-rounds : goal.decreases-rounds
decreases-rounds g l = vec_len l.groups
