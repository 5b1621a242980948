use Rattle.std.proofs.Common.{◌≡◌}
use Rattle.cost_to_go.specs.Standing.{to_go_within, steps_left}
use Rattle.prefix_plans.specs.Standing.{waiting_prefixes, PrefixFrontStands, KeepsPending}
use Rattle.prefix_plans.proofs.walk.walk.Given as goal

abbrev pub invariant-steps : goal.invariant-steps
invariant-steps g l =
    let view = g.S.Space.view in
    let y = (view l.fn.space).system in
    record {
      system : (view l.space).system ≡ y;
      ready : PrefixFrontStands (view l.space) l.search l.front;
      within : l.within ≡ to_go_within l.search;
      keeps : KeepsPending y l.most (waiting_prefixes l.fn.front) (waiting_prefixes l.front);
    }

abbrev pub decreases-steps : goal.decreases-steps
decreases-steps g l = steps_left (g.S.Space.view l.fn.space).system l.search
