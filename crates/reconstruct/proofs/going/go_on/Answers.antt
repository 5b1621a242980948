use Rattle.std.proofs.Common.{◌∙◌, refl, None, true}
use Rattle.bidirectional.specs.Both.{IsBeneath, IsOwnOf, front_layers, back_layers}
use Rattle.reconstruct.specs.declared.drawing.Place.{Place}
use Rattle.reconstruct.proofs.Ends.{right_ends}
use Rattle.reconstruct.proofs.Goes.{first_listing, filled, trades_on, trades_alone}
use Rattle.reconstruct.proofs.going.go_on.Goals as goal

pub draw-requires-clause-listing : goal.draw-requires-clause-listing
draw-requires-clause-listing g c =
    let view = g.S.Space.view in
    let v1 = view c.next_cost.new.space in
    let x = c.next_cost.new.both in
    let next = rw (c.in-Plans.is, c.cost_of.ensures) at c.in_ok-next_cost.ensures.ok in
    rw c.requires.empty (first_listing
    (record { cost_is = refl; after = refl; left = refl; ready = c.new.ensures.items })
    (right_ends v1 x c.next_cost.ensures.both) next)

pub returns-in_err-next_cost-clause-trades : goal.returns-in_err-next_cost-clause-trades
returns-in_err-next_cost-clause-trades g c =
    let view = g.S.Space.view in
    trades_alone (view c.args.space.now) (view c.next_cost.new.space) (IsOwnOf c.args.both.now)
    (IsOwnOf c.next_cost.new.both) c.args.queue.now c.requires.empty c.next_cost.ensures.trades

pub returns-in-Never-clause-trades : goal.returns-in-Never-clause-trades
returns-in-Never-clause-trades g c =
    let view = g.S.Space.view in
    trades_alone (view c.args.space.now) (view c.next_cost.new.space) (IsOwnOf c.args.both.now)
    (IsOwnOf c.next_cost.new.both) c.args.queue.now c.requires.empty c.next_cost.ensures.trades

pub returns-in-Beyond-clause-trades : goal.returns-in-Beyond-clause-trades
returns-in-Beyond-clause-trades g c =
    let view = g.S.Space.view in
    trades_alone (view c.args.space.now) (view c.next_cost.new.space) (IsOwnOf c.args.both.now)
    (IsOwnOf c.next_cost.new.both) c.args.queue.now c.requires.empty c.next_cost.ensures.trades

pub returns-in_err-draw-in-Plans-clause-trades : goal.returns-in_err-draw-in-Plans-clause-trades
returns-in_err-draw-in-Plans-clause-trades g c =
    let view = g.S.Space.view in
    let t = c.next_cost.ensures.trades in
    trades_on (view c.args.space.now) (view c.next_cost.new.space) (view c.draw.new.space) (IsOwnOf c.args.both.now)
    (IsOwnOf c.next_cost.new.both) c.args.queue.now c.draw.new.queue c.requires.empty t.owned t
    c.draw.ensures.draws.1.trades

pub returns-in_ok-draw-in-Plans-clause-trades : goal.returns-in_ok-draw-in-Plans-clause-trades
returns-in_ok-draw-in-Plans-clause-trades g c =
    let view = g.S.Space.view in
    let t = c.next_cost.ensures.trades in
    trades_on (view c.args.space.now) (view c.next_cost.new.space) (view c.draw.new.space) (IsOwnOf c.args.both.now)
    (IsOwnOf c.next_cost.new.both) c.args.queue.now c.draw.new.queue c.requires.empty t.owned t
    c.draw.ensures.draws.1.trades

pub returns-in_ok-draw-in-Plans-clause-ok : goal.returns-in_ok-draw-in-Plans-clause-ok
returns-in_ok-draw-in-Plans-clause-ok g c =
    let view = g.S.Space.view in
    let v = view c.args.space.now in
    let v1 = view c.next_cost.new.space in
    let w = view c.draw.new.space in
    let z = c.next_cost.new.both in
    let t = c.next_cost.ensures.trades in
    let d = c.draw.ensures.draws.1 in
    let next = rw (c.in-Plans.is, c.cost_of.ensures) at c.in_ok-next_cost.ensures.ok in
    let start : Place = record { cost = c.in-Plans.cost; after = None; left = true; ready = c.new.result } in
    let owes = rw c.requires.empty at d.owes in
    filled v v1 w (IsBeneath z) (front_layers z) (back_layers z) c.args.most c.args.listed.now c.in-Plans.cost
    c.draw.new.place c.draw.new.queue t.system (d.kept.system ∙ t.system) next d.listing d.cost start
    (record { cost_is = refl; after = refl; left = refl; ready = c.new.ensures.items }) owes
    c.in_ok-draw-in-Plans.ensures.ok
