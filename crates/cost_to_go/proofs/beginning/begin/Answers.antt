use Rattle.goal_ranks.proofs.Standing.{least_kept}
use Rattle.cost_to_go.proofs.Opening.{begun, begun_trades, begun_none}
use Rattle.cost_to_go.proofs.beginning.begin.Goals as goal

pub returns-in-Ok-clause-stands : goal.returns-in-Ok-clause-stands
returns-in-Ok-clause-stands g c =
    let view = g.S.Space.view in
    let r = c.requires in
    let a = c.in_ok-ahead.ensures in
    let o = c.in-Ok.ensures in
    begun (view c.args.space.now) (view c.new.new.space) (view c.new-2.new.space) c.args.within c.args.everywhere
    c.in-Ok.ranks c.in_ok-ahead.ahead c.new-rings.result c.next-next.result
    r.within r.wide r.everywhere r.all r.two a.least a.ok a.trades o.ranks o.fresh o.trades c.next-next.ensures.key
    c.new-rings.ensures.rings c.new-rings.ensures.known c.new-rings.ensures.none

pub returns-in-Ok-clause-trades : goal.returns-in-Ok-clause-trades
returns-in-Ok-clause-trades g c =
    let view = g.S.Space.view in
    let r = c.requires in
    let a = c.in_ok-ahead.ensures in
    let o = c.in-Ok.ensures in
    begun_trades (view c.args.space.now) (view c.new.new.space) (view c.new-2.new.space) c.args.within
    c.args.everywhere c.in-Ok.ranks c.in_ok-ahead.ahead c.new-rings.result c.next-next.result
    r.within r.wide r.everywhere r.all r.two a.least a.ok a.trades o.ranks o.fresh o.trades c.next-next.ensures.key
    c.new-rings.ensures.rings c.new-rings.ensures.known c.new-rings.ensures.none

pub give_back-requires : goal.give_back-requires
give_back-requires g c =
    let view = g.S.Space.view in
    least_kept (view c.new.new.space) (view c.new-2.new.space) c.in_ok-ahead.ahead c.in-Err.ensures.err.kept c.in_ok-ahead.ensures.least

pub returns-in-Err-clause-err : goal.returns-in-Err-clause-err
returns-in-Err-clause-err g c = begun_none c.in_ok-ahead.ensures.trades c.in-Err.ensures.err c.give_back.ensures
