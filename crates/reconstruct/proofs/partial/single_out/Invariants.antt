use Rattle.std.proofs.Common.{◌≡◌}
use Rattle.space_api.specs.Owned.{Trades}
use Rattle.reconstruct.specs.Entries.{plains, member_in, SetIn}
use Rattle.reconstruct.specs.Turned.{IsQueue}
use Rattle.reconstruct.proofs.SingleOut.{parts_left}
use Rattle.reconstruct.proofs.partial.single_out.Given as goal

abbrev pub invariant-parts : goal.invariant-parts
invariant-parts g l =
    let view = g.S.Space.view in
    let u = view l.fn.space in
    let v = view l.space in
    let fr = member_in u l.front in
    record {
      trades : Trades u v (SetIn l.fn.queue) (SetIn l.queue);
      queue : IsQueue v l.queue;
      same : plains v fr l.queue ≡ plains u fr l.fn.queue;
    }

abbrev pub decreases-parts : goal.decreases-parts
decreases-parts g l = parts_left l.queue
