use Rattle.std.proofs.Common.{ℕ, ◌+◌, ◌<◌, ◌≤◌, sym, subst, arith}
use Rattle.space_api.specs.View.{Has}
use Rattle.cost_search.specs.Search.{layers_of}
use Rattle.cost_search.specs.Meeting.{IsLeastAt}
use Rattle.goal_ranks.specs.Least.{least_search}
use Rattle.goal_ranks.specs.Ahead.{bound_of, IsKeyOf}
use Rattle.goal_ranks.specs.Unions.{rings_known}
use Rattle.goal_ranks.proofs.Keys.{none_more, later_ring, later_bound}
use Rattle.goal_ranks.proofs.telling.tell_by_rings.Goals as goal

pub returns-in-Some-clause-ok : goal.returns-in-Some-clause-ok
returns-in-Some-clause-ok g c =
    let v = g.S.Space.view c.args.space.now in
    let f = c.args.ahead.now in
    let l = layers_of (least_search f) in
    let least = c.in_ok-ring.ensures.least l c.requires.rings.rings (none_more v f c.requires.ahead (rings_known c.args.rings.now) c.requires.rings.all) in
    let m = subst (IsLeastAt v l c.args.set) c.in-Some.is least in
    (c.if-cost-ring.true, m.0)

pub returns-in-Some-2-clause-ok : goal.returns-in-Some-2-clause-ok
returns-in-Some-2-clause-ok g c =
    let v = g.S.Space.view c.args.space.now in
    let f = c.args.ahead.now in
    let l = layers_of (least_search f) in
    let r = c.args.rings.now in
    let least = c.in_ok-ring.ensures.least l c.requires.rings.rings (none_more v f c.requires.ahead (rings_known r) c.requires.rings.all) in
    let m = subst (IsLeastAt v l c.args.set) c.in-Some.is least in
    later_ring v f c.requires.ahead c.args.set c.args.cost c.args.key 0 c.in-Some.ring c.requires.key (omega arith)
    m.0 m.1 (omega (arith, c.if-cost-ring.false))

pub returns-in-None-clause-ok : goal.returns-in-None-clause-ok
returns-in-None-clause-ok g c =
    let v = g.S.Space.view c.args.space.now in
    let f = c.args.ahead.now in
    let l = layers_of (least_search f) in
    let r = c.args.rings.now in
    let x = c.args.cost in
    let least = c.in_ok-ring.ensures.least l c.requires.rings.rings (none_more v f c.requires.ahead (rings_known r) c.requires.rings.all) in
    let m = subst (IsLeastAt v l c.args.set) c.in-None.is least in
    subst (λ (n : ℕ). (c.args.key < x + n) × (x + n ≤ x + bound_of f) × IsKeyOf v.system (Has v c.args.set) x (x + n)) (sym c.bound_ahead-bound.ensures)
    (later_bound v f c.requires.ahead c.args.set x c.args.key 0 c.requires.key (omega arith) m c.requires.low)
