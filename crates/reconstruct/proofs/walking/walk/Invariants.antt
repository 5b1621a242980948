use Rattle.std.proofs.Common.{◌+◌, ◌<◌, ◌≤◌, length}
use Rattle.space_api.specs.Owned.{Trades}
use Rattle.plan_cuts.specs.Entries.{height, entry_weight}
use Rattle.plan_cuts.proofs.Queue.{last_by}
use Rattle.reconstruct.specs.Entries.{plains, member_in, SetIn}
use Rattle.reconstruct.specs.Turned.{IsQueue, EndsSingle}
use Rattle.reconstruct.specs.Expansions.{AreRightExpansions}
use Rattle.reconstruct.proofs.Walks.{WalkedTo}
use Rattle.reconstruct.proofs.walking.walk.Given as goal

abbrev pub invariant-turns : goal.invariant-turns
invariant-turns g l =
    let view = g.S.Space.view in
    let u = view l.fn.space in
    let v = view l.space in
    record {
      trades : Trades u v (SetIn l.fn.queue) (SetIn l.queue);
      queue : IsQueue v l.queue;
      some : 0 < length l.queue;
      single : EndsSingle l.queue;
      walked : WalkedTo u l.front l.back l.fn.queue (plains v (member_in u l.front) l.queue);
      memo : AreRightExpansions u l.back l.memo;
      from : l.fn.steps ≤ l.steps;
      steps : l.steps ≤ l.fn.steps + last_by entry_weight (plains v (member_in u l.front) l.queue);
    }

abbrev pub decreases-turns : goal.decreases-turns
decreases-turns g l = last_by height (plains (g.S.Space.view l.space) (member_in (g.S.Space.view l.fn.space) l.front) l.queue)
