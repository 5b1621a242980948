use Rattle.std.proofs.Common.{◌≡◌, ◌<◌, ◌^◌, ◌∙◌, true, false, max, refl, sym, arith}
use Rattle.prefix_plans.specs.declared.left.Left.{Left}
use Rattle.prefix_plans.proofs.Ranking.{known_some, unranked_by, known_none, nowhere}
use Rattle.prefix_plans.proofs.left.left_from.Goals as goal

pub rank_from-requires-clause-state : goal.rank_from-requires-clause-state
rank_from-requires-clause-state g c = (c.requires.reached.0, c.requires.reached.1)

pub returns-in-Some : goal.returns-in-Some
returns-in-Some g c =
    let v = g.S.Space.view c.args.heuristic.now.space.now in
    let left : Left = record { cost = c.in-Some.rank.cost; ranked = true; ring = c.in-Some.rank.number } in
    known_some v c.args.heuristic.now.search.now c.requires.search c.args.state.now c.args.cost c.requires.reached left (rw c.in-Some.is at c.rank_from.ensures) refl

pub returns-in-None : goal.returns-in-None
returns-in-None g c =
    let v = g.S.Space.view c.args.heuristic.now.space.now in
    let f = c.args.heuristic.now.search.now in
    let s = c.args.state.now in
    let none = unranked_by v f c.requires.search s c.args.cost c.requires.reached c.args.first c.args.low
    c.requires.low c.requires.first (rw c.in_default.is at c.rank_from.ensures) in
    nowhere v f c.requires.search s c.args.cost c.requires.reached none (sym c.left_unranked.ensures ∙ c.in-None.is)

pub returns-in-Some-left_unranked : goal.returns-in-Some-left_unranked
returns-in-Some-left_unranked g c =
    let v = g.S.Space.view c.args.heuristic.now.space.now in
    let f = c.args.heuristic.now.search.now in
    let s = c.args.state.now in
    let none = unranked_by v f c.requires.search s c.args.cost c.requires.reached c.args.first c.args.low
    c.requires.low c.requires.first (rw c.in_default.is at c.rank_from.ensures) in
    let left : Left = record { cost = c.max.result; ranked = false; ring = c.ranks.result } in
    let range : c.args.low < 2 ^ 64 = omega arith in
    let cost : c.max.result ≡ max c.in-Some-left_unranked.left c.args.low = omega arith in
    known_none v f c.requires.search s c.args.cost c.requires.reached none c.in-Some-left_unranked.left c.args.low
    c.requires.low range (sym c.left_unranked.ensures ∙ c.in-Some-left_unranked.is) left refl
    c.ranks.ensures.many cost
