use Rattle.std.proofs.Common.{Some, inr}
use Rattle.bidirectional.specs.Both.{IsBeneath, IsOwnOf, front_layers, back_layers}
use Rattle.bidirectional.proofs.Ends.{valid_ends, owned_ends}
use Rattle.reconstruct.proofs.Staying.{right_kept}
use Rattle.reconstruct.proofs.Ends.{right_ends}
use Rattle.reconstruct.proofs.AgendaMoves.{moved_not, moved_drawn, listing_of}
use Rattle.reconstruct.proofs.next_plan.draw_next.Goals as goal

pub returns-in-None-clause-moves : goal.returns-in-None-clause-moves
returns-in-None-clause-moves g c =
    let v = g.S.Space.view c.args.space.now in
    let x = c.args.both.now in
    let z = c.requires.working in
    let agenda = c.args.agenda.now in
    moved_not v (IsOwnOf x) (IsBeneath x) (front_layers x) (back_layers x) agenda.listed agenda.queue (λ a u. valid_ends v x z.stands a (owned_ends x a u)) z.at

pub returns-then-place-clause-working : goal.returns-then-place-clause-working
returns-then-place-clause-working g c =
    let view = g.S.Space.view in
    let v = view c.args.space.now in
    let x = c.args.both.now in
    let z = c.requires.working in
    let d = c.draw.ensures.draws in
    record {
      stands = d.0;
      at = inr d.1.listing;
      moves = right_kept v (view c.draw.new.space) (back_layers x)
          c.args.agenda.now.memo (right_ends v x z.stands).back_held d.1.kept z.moves;
    }

pub returns-then-place-clause-moves : goal.returns-then-place-clause-moves
returns-then-place-clause-moves g c =
    let v = g.S.Space.view c.args.space.now in
    let x = c.args.both.now in
    let z = c.requires.working in
    let l = listing_of v (IsBeneath x) (front_layers x) (back_layers x) c.in-Some.place c.args.agenda.now.queue c.if-place.true (rw c.in-Some.is at z.at) in
    rw c.in-Some.is (moved_drawn (IsOwnOf x) (valid_ends v x z.stands) (owned_ends x) l c.draw.ensures.draws.1)

pub returns-else-place-clause-moves : goal.returns-else-place-clause-moves
returns-else-place-clause-moves g c =
    let v = g.S.Space.view c.args.space.now in
    let x = c.args.both.now in
    let z = c.requires.working in
    let at = rw c.in-Some.is at z.at in
    rw c.in-Some.is (moved_not v (IsOwnOf x) (IsBeneath x) (front_layers x) (back_layers x) (Some c.in-Some.place)
    c.args.agenda.now.queue (λ a u. valid_ends v x z.stands a (owned_ends x a u)) at)
