use Rattle.std.proofs.Common.{◌∙◌}
use Rattle.cost_layers.specs.Layers.{rings_at, union_at}
use Rattle.cost_layers.proofs.Holding.{holds_kept}
use Rattle.bidirectional.specs.Both.{b_of, front_layers, back_layers}
use Rattle.reconstruct.proofs.Ends.{right_ends}
use Rattle.reconstruct.proofs.Placing.{drawable, drawable_on, opened_from}
use Rattle.reconstruct.proofs.Ready.{front_is, front_none, ready_next}
use Rattle.reconstruct.proofs.drawing.next_entry.Goals as goal

pub returns-in-None-clause-ok : goal.returns-in-None-clause-ok
returns-in-None-clause-ok g c =
    let p = c.find_cuts.new.place in (
      c.find_cuts.ensures.stays,
      c.in_ok-find_cuts.ensures.ok
          (front_none p.ready.items (front_is p.ready.items c.front.result c.copied.result c.copied.ensures
          c.front.ensures.item ∙ c.in-None.is)),
    )

pub open_cut-requires-clause-cut : goal.open_cut-requires-clause-cut
open_cut-requires-clause-cut g c =
    let view = g.S.Space.view in
    let v = view c.args.space.now in
    let w = view c.find_cuts.new.space in
    let x = c.args.both.now in
    let p = c.find_cuts.new.place in
    let front = front_is p.ready.items c.front.result c.copied.result c.copied.ensures c.front.ensures.item ∙ c.in-Some.is in
    let next = ready_next v.system (b_of x) p.cost p.after p.ready.items c.in-Some.cut c.find_cuts.ensures.ready front in
    rw (c.forward_layers.ensures.value, c.backward_layers.ensures.value)
    (drawable_on v w (front_layers x) (back_layers x) c.in-Some.cut c.find_cuts.ensures.stays.kept
    (drawable v (front_layers x) (back_layers x) p.cost c.in-Some.cut (right_ends v x c.requires.both)
    (rw c.find_cuts.ensures.same.cost c.requires.settled) next.0.0))

pub returns-in_ok-entry-in-Some-clause-ok : goal.returns-in_ok-entry-in-Some-clause-ok
returns-in_ok-entry-in-Some-clause-ok g c =
    let view = g.S.Space.view in
    let v = view c.args.space.now in
    let x = c.args.both.now in
    let p = c.find_cuts.new.place in
    let r = right_ends v x c.requires.both in
    let front = front_is p.ready.items c.front.result c.copied.result c.copied.ensures c.front.ensures.item ∙ c.in-Some.is in
    let o = rw (c.forward_layers.ensures.value, c.backward_layers.ensures.value) at c.in_ok-entry-in-Some.ensures.ok in
    (front, opened_from c.find_cuts.ensures.stays r.front_held r.back_held o)

pub open_cut-requires-clause-front : goal.open_cut-requires-clause-front
open_cut-requires-clause-front g c =
    let view = g.S.Space.view in
    let v = view c.args.space.now in
    let x = c.args.both.now in
    let l = front_layers x in
    rw c.forward_layers.ensures.value (holds_kept v (view c.find_cuts.new.space) (rings_at l) (union_at l)
    c.find_cuts.ensures.stays.kept (right_ends v x c.requires.both).front_held)

pub open_cut-requires-clause-back : goal.open_cut-requires-clause-back
open_cut-requires-clause-back g c =
    let view = g.S.Space.view in
    let v = view c.args.space.now in
    let x = c.args.both.now in
    let l = back_layers x in
    rw c.backward_layers.ensures.value (holds_kept v (view c.find_cuts.new.space) (rings_at l) (union_at l)
    c.find_cuts.ensures.stays.kept (right_ends v x c.requires.both).back_held)
