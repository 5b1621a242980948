use Rattle.space_api.specs.Frames.{Stays}
use Rattle.reconstruct.proofs.Following.{follow_law, err_of}
use Rattle.reconstruct.proofs.turns.follow.Goals as goal

pub is_done-requires-clause-memo : goal.is_done-requires-clause-memo
is_done-requires-clause-memo g c = λ cost s moves ends r. (c.requires.memo cost s moves ends r).end

pub returns-in_err-entries-clause-err : goal.returns-in_err-entries-clause-err
returns-in_err-entries-clause-err g c =
    let view = g.S.Space.view in
    let u = view c.args.space.now in
    err_of c.from_residual-in_err-entries.result (Stays u (view c.with_begun.new.space)) (c.in_err-entries.ensures.back u c.in_ok-made.ensures.ok.0)

pub returns-clause-ok : goal.returns-clause-ok
returns-clause-ok g c =
    let view = g.S.Space.view in
    rw c.in_ok-entries.ensures.stays (follow_law (view c.args.space.now) (view c.expand.new.space) c.args.front.now
    c.args.back.now c.requires.back c.args.entry.now c.in_ok-made.made.items c.in_ok-entries.entries.items
    c.in_ok-done.done c.in_ok-begun.begun c.requires.single c.requires.entry c.in_ok-done.ensures c.in_ok-made.ensures.ok
    c.in_ok-begun.ensures c.in_ok-entries.ensures.ok)
