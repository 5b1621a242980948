use Rattle.reconstruct.proofs.Turning.{queue_stays, trades_none, turn_owns, turn_tells, turn_stays}
use Rattle.reconstruct.proofs.turns.turn.Goals as goal

pub follow-requires-clause-single : goal.follow-requires-clause-single
follow-requires-clause-single g c = c.requires.single c.last.result.now c.last.ensures

pub returns-in_err-next-clause-queue : goal.returns-in_err-next-clause-queue
returns-in_err-next-clause-queue g c = queue_stays (g.S.Space.view c.args.space.now)
    (g.S.Space.view c.follow.new.space) c.args.queue.now c.in_err-next.ensures.err c.requires.queue

pub returns-in_err-next-clause-trades : goal.returns-in_err-next-clause-trades
returns-in_err-next-clause-trades g c = trades_none (g.S.Space.view c.args.space.now)
    (g.S.Space.view c.follow.new.space) c.args.queue.now c.in_err-next.ensures.err c.requires.queue

pub returns-clause-queue : goal.returns-clause-queue
returns-clause-queue g c =
    let view = g.S.Space.view in
    (turn_owns (λ p. p.items) (view c.args.space.now) (view c.follow.new.space) (view c.replace_last.new.space)
    c.args.queue.now c.replace_last.new.queue c.in_ok-next.next.entries.items c.in_ok-next.next.done
    c.requires.queue c.in_ok-next.ensures.ok.0 c.replace_last.result c.replace_last.ensures.ok
    c.replace_last.ensures.back c.replace_last.ensures.err).0

pub returns-clause-trades : goal.returns-clause-trades
returns-clause-trades g c =
    let view = g.S.Space.view in
    (turn_owns (λ p. p.items) (view c.args.space.now) (view c.follow.new.space) (view c.replace_last.new.space)
    c.args.queue.now c.replace_last.new.queue c.in_ok-next.next.entries.items c.in_ok-next.next.done
    c.requires.queue c.in_ok-next.ensures.ok.0 c.replace_last.result c.replace_last.ensures.ok
    c.replace_last.ensures.back c.replace_last.ensures.err).1

pub returns-clause-ok : goal.returns-clause-ok
returns-clause-ok g c =
    let view = g.S.Space.view in
    turn_tells (λ p. p.items) (view c.args.space.now) (view c.follow.new.space) (view c.replace_last.new.space)
    c.args.queue.now c.replace_last.new.queue c.in_ok-next.next.entries.items c.in_ok-next.next.done
    c.requires.queue c.in_ok-next.ensures.ok.0 c.args.front.now c.args.back.now c.last.result.now
    c.replace_last.result (c.requires.single c.last.result.now c.last.ensures) c.last.ensures c.in_ok-next.ensures.ok c.replace_last.ensures.ok

pub returns-clause-stays : goal.returns-clause-stays
returns-clause-stays g c =
    let view = g.S.Space.view in
    turn_stays (λ p. p.items) (view c.args.space.now) (view c.follow.new.space) (view c.replace_last.new.space)
    c.args.queue.now c.replace_last.new.queue c.in_ok-next.next.entries.items c.in_ok-next.next.done
    c.requires.queue c.in_ok-next.ensures.ok.0 c.replace_last.result c.replace_last.ensures.back
