use Rattle.cost_to_go.proofs.Opening.{left_ahead, left_unions, left_all, all_back}
use Rattle.cost_to_go.proofs.search.CostToGo.give_back.Goals as goal

pub give_back-requires : goal.give_back-requires
give_back-requires g c = c.requires.ranks

pub give_back-requires-2 : goal.give_back-requires-2
give_back-requires-2 g c =
    let view = g.S.Space.view in
    let f = c.args.self in
    left_ahead (view c.args.space.now) (view c.give_back.new.space) f.ranks f.ahead f.rings f.everywhere f.next c.requires c.give_back.ensures

pub give_back-requires-3 : goal.give_back-requires-3
give_back-requires-3 g c =
    let view = g.S.Space.view in
    let f = c.args.self in
    left_unions (view c.args.space.now) (view c.give_back.new.space) f.ranks f.ahead f.rings f.everywhere f.next
    c.requires c.give_back.ensures (view c.give_back-2.new.space) c.give_back-2.ensures

pub forget-requires : goal.forget-requires
forget-requires g c =
    let view = g.S.Space.view in
    let f = c.args.self in
    left_all (view c.args.space.now) (view c.give_back.new.space) f.ranks f.ahead f.rings f.everywhere f.next
    c.requires c.give_back.ensures (view c.give_back-2.new.space) c.give_back-2.ensures
    (view c.give_back-3.new.space) c.give_back-3.ensures

pub returns : goal.returns
returns g c =
    let view = g.S.Space.view in
    let f = c.args.self in
    all_back (view c.args.space.now) (view c.give_back.new.space) f.ranks f.ahead f.rings f.everywhere f.next
    c.requires c.give_back.ensures (view c.give_back-2.new.space) c.give_back-2.ensures
    (view c.give_back-3.new.space) c.give_back-3.ensures (view c.forget.new.self) c.forget.ensures
