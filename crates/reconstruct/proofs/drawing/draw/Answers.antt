use Rattle.std.proofs.Common.{refl}
use Rattle.bidirectional.specs.Both.{IsBeneath, front_layers, back_layers}
use Rattle.bidirectional.proofs.Ends.{valid_ends}
use Rattle.reconstruct.proofs.Ends.{right_ends}
use Rattle.reconstruct.proofs.Placing.{stays_drew, none_drew, put_drew, drew_draws}
use Rattle.reconstruct.proofs.Parting.{put_more}
use Rattle.reconstruct.proofs.drawing.draw.Goals as goal

pub returns-in_err-next_entry-clause-draws : goal.returns-in_err-next_entry-clause-draws
returns-in_err-next_entry-clause-draws g c =
    let view = g.S.Space.view in
    let v = view c.args.space.now in
    let w = view c.next_entry.new.space in
    let x = c.args.both.now in
    drew_draws v w x c.args.place.now c.next_entry.new.place c.args.queue.now c.args.queue.now c.requires.both
    (stays_drew v (IsBeneath x) (front_layers x) (back_layers x) c.args.place.now c.args.queue.now
    (right_ends v x c.requires.both) (valid_ends v x c.requires.both) c.requires.left c.requires.empty
    c.requires.listing w c.next_entry.new.place c.next_entry.ensures.same c.next_entry.ensures.ready
    c.in_err-next_entry.ensures.err)

pub returns-in-None-clause-draws : goal.returns-in-None-clause-draws
returns-in-None-clause-draws g c =
    let view = g.S.Space.view in
    let v = view c.args.space.now in
    let w = view c.next_entry.new.space in
    let x = c.args.both.now in
    let n = rw c.in-None.is at c.in_ok-next_entry.ensures.ok in
    let same = c.next_entry.ensures.same in
    let none = rw (same.cost, same.after) at n.1 in
    drew_draws v w x c.args.place.now _ c.args.queue.now c.args.queue.now c.requires.both
    (none_drew v (IsBeneath x) (front_layers x) (back_layers x) c.args.place.now c.args.queue.now
    (right_ends v x c.requires.both) (valid_ends v x c.requires.both) c.requires.left c.requires.empty
    c.requires.listing w _ same.cost same.after refl c.next_entry.ensures.ready n.0 none)

pub returns-in-Some-clause-draws : goal.returns-in-Some-clause-draws
returns-in-Some-clause-draws g c =
    let view = g.S.Space.view in
    let v = view c.args.space.now in
    let w = view c.put.new.space in
    let x = c.args.both.now in
    let n = rw c.in-Some.is at c.in_ok-next_entry.ensures.ok in
    drew_draws v w x c.args.place.now c.put.new.place c.args.queue.now c.put.new.queue c.requires.both
    (put_drew v (IsBeneath x) (front_layers x) (back_layers x) c.args.place.now c.args.queue.now
    (right_ends v x c.requires.both) (valid_ends v x c.requires.both) c.requires.left c.requires.empty
    c.requires.listing c.in-Some.drawn c.put.new.place c.put.new.queue c.put.result c.next_entry.ensures.same
    c.next_entry.ensures.ready n.0 n.1 c.put.ensures.ok c.put.ensures.err)

pub returns-in-Some-clause-ok : goal.returns-in-Some-clause-ok
returns-in-Some-clause-ok g c =
    let view = g.S.Space.view in
    let n = rw c.in-Some.is at c.in_ok-next_entry.ensures.ok in
    put_more (view c.next_entry.new.space) (view c.put.new.space) c.next_entry.new.place c.put.new.place c.put.new.queue
    c.in-Some.drawn c.put.result c.put.ensures.ok n.1.single
