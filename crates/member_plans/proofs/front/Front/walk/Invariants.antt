use Rattle.std.proofs.Common.{◌≡◌, ◌≤◌, ◌+◌, ◌-◌, ◌^◌, length}
use Rattle.cost_to_go.specs.Standing.{to_go_within, steps_left}
use Rattle.member_plans.specs.Front.{FollowsTurns, opened_places}
use Rattle.member_plans.proofs.front.Front.walk.Given as goal

abbrev pub invariant-steps : goal.invariant-steps
invariant-steps g l =
    let view = g.S.Space.view in
    record {
      system : (view l.space).system ≡ (view l.fn.space).system;
      within : l.within ≡ to_go_within l.search;
      follows : FollowsTurns (view l.space) l.search l.most l.fn.self l.self;
      steps : l.fn.steps ≤ l.steps;
    }

abbrev pub decreases-steps : goal.decreases-steps
decreases-steps g l = steps_left (g.S.Space.view l.fn.space).system l.search + (2 ^ 64 - length (opened_places l.self))
