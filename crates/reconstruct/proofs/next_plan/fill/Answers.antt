use Rattle.std.proofs.Common.{rules, ◌≡◌, ◌<◌, [], length, ◌∙◌, ap}
use Rattle.bidirectional.specs.Both.{back_layers}
use Rattle.reconstruct.proofs.Remembering.{right_empty}
use Rattle.reconstruct.specs.Going.{place_cost}
use Rattle.reconstruct.specs.Working.{OwedBy}
use Rattle.reconstruct.proofs.AgendaMoves.{went_ok, gone_moved, gone_fits, moved_trans, rest_of, range_same}
use Rattle.reconstruct.proofs.Parting.{more_made}
use Rattle.reconstruct.proofs.next_plan.fill.Goals as goal

pub returns-clause-ok : goal.returns-clause-ok
returns-clause-ok g c =
    let view = g.S.Space.view in
    let v = view c.args.space.now in
    let x = c.args.both.now in
    let z = c.go_on.new.both in
    let m = moved_trans c.single_out_next.ensures.moves c.draw_next.ensures.moves in
    let drawn = c.draw_next.new.agenda in
    let empty : drawn.queue ≡ [] = search rules in
    let rests = rest_of drawn.listed drawn.queue empty c.in_ok-draw_next.ensures.ok in
    went_ok x z c.args.most drawn.listed c.go_on.new.listed drawn.queue c.go_on.new.queue rests empty c.go_on.ensures.trades
    (OwedBy v x c.args.agenda.now) (m.trades.system) m.owes c.go_on.result c.go_on.ensures.ok

pub returns-clause-working : goal.returns-clause-working
returns-clause-working g c =
    let view = g.S.Space.view in
    let x = c.args.both.now in
    let z = c.go_on.new.both in
    let drawn = c.draw_next.new.agenda in
    let empty : drawn.queue ≡ [] = search rules in
    let rests = rest_of drawn.listed drawn.queue empty c.in_ok-draw_next.ensures.ok in
    let gone =
    gone_moved x z c.args.most drawn.listed c.go_on.new.listed drawn.queue c.go_on.new.queue rests empty c.go_on.ensures.trades
    c.go_on.result c.go_on.ensures.ok c.go_on.ensures.listed c.go_on.ensures.queue in
    record { stands = c.go_on.ensures.both; at = gone.at; moves = right_empty (view c.go_on.new.space) (back_layers z) c.clear.new.self c.clear.ensures }

pub returns-clause-moves : goal.returns-clause-moves
returns-clause-moves g c =
    let view = g.S.Space.view in
    let x = c.args.both.now in
    let z = c.go_on.new.both in
    let drawn = c.draw_next.new.agenda in
    let empty : drawn.queue ≡ [] = search rules in
    let rests = rest_of drawn.listed drawn.queue empty c.in_ok-draw_next.ensures.ok in
    moved_trans (moved_trans c.single_out_next.ensures.moves c.draw_next.ensures.moves)
    (gone_moved x z c.args.most drawn.listed c.go_on.new.listed drawn.queue c.go_on.new.queue rests empty c.go_on.ensures.trades
    c.go_on.result c.go_on.ensures.ok c.go_on.ensures.listed c.go_on.ensures.queue)

pub returns-clause-range : goal.returns-clause-range
returns-clause-range g c =
    let view = g.S.Space.view in
    let drawn = c.draw_next.new.agenda in
    let range = range_same c.args.most c.args.agenda.now.listed drawn.listed
    (c.draw_next.ensures.cost ∙ ap place_cost c.single_out_next.ensures.listed) c.requires.range in
    gone_fits (view c.draw_next.new.space) (view c.go_on.new.space) c.go_on.new.both c.args.most drawn.listed
    c.go_on.new.listed c.go_on.new.queue c.go_on.result range c.go_on.ensures.ok c.go_on.ensures.listed

pub returns-in_err-draw_next-clause-moves : goal.returns-in_err-draw_next-clause-moves
returns-in_err-draw_next-clause-moves g c = moved_trans c.single_out_next.ensures.moves c.draw_next.ensures.moves

pub returns-then-not-is_empty-2-clause-moves : goal.returns-then-not-is_empty-2-clause-moves
returns-then-not-is_empty-2-clause-moves g c = moved_trans c.single_out_next.ensures.moves c.draw_next.ensures.moves

pub returns-then-not-is_empty-2-clause-ok : goal.returns-then-not-is_empty-2-clause-ok
returns-then-not-is_empty-2-clause-ok g c =
    let some : 0 < length c.draw_next.new.agenda.queue = search rules in
    more_made c.draw_next.new.agenda.listed some c.in_ok-draw_next.ensures.ok
