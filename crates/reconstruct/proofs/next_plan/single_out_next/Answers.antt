use Rattle.std.proofs.Common.{◌<◌, length, rules}
use Rattle.bidirectional.specs.Both.{IsBeneath, IsOwnOf, front_layers, back_layers}
use Rattle.bidirectional.proofs.Ends.{valid_ends, owned_ends}
use Rattle.reconstruct.proofs.AgendaMoves.{moved_not}
use Rattle.reconstruct.proofs.SingleOut.{front_apart, single_working}
use Rattle.reconstruct.proofs.next_plan.single_out_next.Goals as goal

pub returns-then-is_empty-clause-moves : goal.returns-then-is_empty-clause-moves
returns-then-is_empty-clause-moves g c =
    let v = g.S.Space.view c.args.space.now in
    let x = c.args.both.now in
    let z = c.requires in
    let agenda = c.args.agenda.now in
    moved_not v (IsOwnOf x) (IsBeneath x) (front_layers x) (back_layers x) agenda.listed agenda.queue (λ a u. valid_ends v x z.stands a (owned_ends x a u)) z.at

pub single_out-requires-clause-apart : goal.single_out-requires-clause-apart
single_out-requires-clause-apart g c =
    let some : 0 < length c.args.agenda.now.queue = search rules in
    rw c.forward_layers.ensures.value (front_apart c.args.agenda.now c.requires some)

pub returns-clause-working : goal.returns-clause-working
returns-clause-working g c =
    let some : 0 < length c.args.agenda.now.queue = search rules in
    let e = rw c.forward_layers.ensures.value at c.single_out.ensures in
    (single_working c.args.agenda.now c.requires some c.single_out.new.queue e.trades e.queue e.same).0

pub returns-clause-moves : goal.returns-clause-moves
returns-clause-moves g c =
    let some : 0 < length c.args.agenda.now.queue = search rules in
    let e = rw c.forward_layers.ensures.value at c.single_out.ensures in
    (single_working c.args.agenda.now c.requires some c.single_out.new.queue e.trades e.queue e.same).1
