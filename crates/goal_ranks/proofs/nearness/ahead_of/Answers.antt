use Rattle.std.proofs.Common.{Some, None, sym, subst, arith}
use Rattle.cost_layers.specs.Layers.{Held}
use Rattle.cost_layers.specs.declared.layers.Layers.{Layers}
use Rattle.cost_search.specs.Meeting.{IsFirstIn}
use Rattle.goal_ranks.specs.Ahead.{bound_of}
use Rattle.goal_ranks.proofs.Keys.{ring_reached, layer_few}
use Rattle.goal_ranks.proofs.Locating.{none_less}
use Rattle.goal_ranks.proofs.nearness.ahead_of.Goals as goal

pub first_with_state-requires-clause-held : goal.first_with_state-requires-clause-held
first_with_state-requires-clause-held g c = subst (λ (l : Layers _). Held (g.S.Space.view c.args.space.now) l)
    (sym c.layers.ensures.value) c.requires.ahead.least.search.held

pub returns-in-Some-clause-least : goal.returns-in-Some-clause-least
returns-in-Some-clause-least g c =
    let v = g.S.Space.view c.args.space.now in
    let f = c.args.ahead.now in
    let s = c.args.state.now in
    let cost = c.in-Some.cost in
    let first = subst (λ (l : Layers _). IsFirstIn v l s 0 (Some cost)) c.layers.ensures.value (rw c.in-Some.is at c.first_with_state.ensures) in
    none_less v f c.requires.ahead s cost (layer_few v f c.requires.ahead cost s first.0) (λ d lt. first.1 d (omega arith) lt)

pub returns-in-Some-clause-reached : goal.returns-in-Some-clause-reached
returns-in-Some-clause-reached g c = λ lt.
    let v = g.S.Space.view c.args.space.now in
    let s = c.args.state.now in
    let first = subst (λ (l : Layers _). IsFirstIn v l s 0 (Some c.in-Some.cost)) c.layers.ensures.value (rw c.in-Some.is at c.first_with_state.ensures) in
    ring_reached v c.args.ahead.now c.requires.ahead c.in-Some.cost s first.0

pub returns-in-None-clause-least : goal.returns-in-None-clause-least
returns-in-None-clause-least g c =
    let v = g.S.Space.view c.args.space.now in
    let f = c.args.ahead.now in
    let s = c.args.state.now in
    let first = subst (λ (l : Layers _). IsFirstIn v l s 0 None) c.layers.ensures.value (rw c.in-None.is at c.first_with_state.ensures) in
    let less = none_less v f c.requires.ahead s (bound_of f) (omega arith) (λ d lt. first d (omega arith) (omega (arith, lt))) in
    λ a run. let m = less a run in omega (arith, m, c.bound_ahead.ensures)
