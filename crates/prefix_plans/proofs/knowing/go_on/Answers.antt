use Rattle.prefix_plans.proofs.Moving.{alone_moved, ready_as}
use Rattle.prefix_plans.proofs.knowing.go_on.Goals as goal

pub returns-clause-ready : goal.returns-clause-ready
returns-clause-ready g c m nodes es z =
    let v = g.S.Space.view c.args.space.now in
    let w = g.S.Space.view c.go_on.new.space in
    let f = c.args.search.now in
    let h = c.go_on.new.self in
    let e = c.go_on.ensures in
    ready_as v w f h e.trades.system e.goes_on nodes m es (alone_moved v w f h e.stands e.trades e.goes_on c.requires.alone) z
