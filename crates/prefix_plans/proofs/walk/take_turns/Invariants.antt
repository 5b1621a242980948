use Rattle.std.proofs.Common.{◌≡◌}
use Rattle.prefix_tree.specs.Entries.{queued_entries}
use Rattle.prefix_plans.specs.Left.{known_to_go}
use Rattle.prefix_plans.specs.Standing.{waiting_prefixes, PrefixFrontStands, KeepsPending, prefix_work}
use Rattle.prefix_plans.proofs.walk.take_turns.Given as goal

abbrev pub invariant-turns : goal.invariant-turns
invariant-turns g l =
    let view = g.S.Space.view in
    let y = (view l.fn.space).system in
    record {
      system : (view l.space).system ≡ y;
      ready : PrefixFrontStands (view l.space) l.search l.front;
      keeps : KeepsPending y l.most (waiting_prefixes l.fn.front) (waiting_prefixes l.front);
    }

abbrev pub decreases-turns : goal.decreases-turns
decreases-turns g l = prefix_work (known_to_go l.search) (queued_entries l.front.queue)
