use Rattle.std.proofs.Common.{◌≡◌, ◌≤◌}
use Rattle.prefix_plans.specs.Left.{known_to_go}
use Rattle.member_plans.specs.Front.{FollowsTurns, member_work}
use Rattle.member_plans.proofs.front.Front.take_turns.Given as goal

abbrev pub invariant-turns : goal.invariant-turns
invariant-turns g l =
    let view = g.S.Space.view in
    record {
      system : (view l.space).system ≡ (view l.fn.space).system;
      follows : FollowsTurns (view l.space) l.search l.most l.fn.self l.self;
      steps : l.fn.steps ≤ l.steps;
    }

abbrev pub decreases-turns : goal.decreases-turns
decreases-turns g l = member_work (known_to_go l.search) l.self
