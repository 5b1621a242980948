use Rattle.std.proofs.Common.{◌<◌, ◌≤◌, subst, arith}
use Rattle.run_graph.specs.Graph.{seen_from}
use Rattle.cost_layers.specs.Leaving.{FirstOut}
use Rattle.cost_layers.proofs.Trying.{way_ahead, way_told}
use Rattle.cost_layers.proofs.leaving.way_out.Goals as goal

pub returns-in-Some-clause-ok : goal.returns-in-Some-clause-ok
returns-in-Some-clause-ok g c =
    let v = g.S.Space.view c.args.space.now in
    let w = seen_from c.args.side v.system in
    let from = c.args.start in
    let start = c.min-start.result in
    let end = c.operators-end.result in
    let low : start ≤ from = grind arith in
    let high : start < end → from ≤ start = grind arith in
    let found = subst (FirstOut w v start end c.args.set c.args.within) c.in-Some.is c.in_ok-op.ensures.ok in
    way_ahead w v c.args.set c.args.within from start end c.in-Some.op low high found

pub returns-in-None-clause-ok : goal.returns-in-None-clause-ok
returns-in-None-clause-ok g c =
    let v = g.S.Space.view c.args.space.now in
    let start = c.min-start.result in
    let end = c.operators-end.result in
    let low : start ≤ c.args.start = grind arith in
    let none = subst (FirstOut (seen_from c.args.side v.system) v start end c.args.set c.args.within) c.in-None.is c.in_ok-op.ensures.ok in
    way_told c.args.side v (g.S.Space.view c.first_out.new.space) c.args.set c.args.within
    c.in_ok-op.ensures.stays.kept c.requires.set c.requires.within c.args.start start end
    c.first_out-in-None.result low c.operators-end.ensures none c.first_out-in-None.ensures.ok
