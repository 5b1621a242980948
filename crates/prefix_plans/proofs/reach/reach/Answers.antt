use Rattle.std.proofs.Common.{◌+◌, ◌<◌, ◌^◌, Some, None, IsTrue, refl, sym, subst, arith}
use Rattle.std.specs.Bool.{Decides}
use Rattle.task_system.specs.System.{State}
use Rattle.run_graph.specs.Reached.{ReachedAt}
use Rattle.space_api.specs.States.{IsReached}
use Rattle.prefix_tree.specs.StateGraph.{states_of}
use Rattle.cost_to_go.specs.Telling.{CostsAtLeast}
use Rattle.prefix_plans.specs.Left.{IsEndLeft}
use Rattle.prefix_plans.proofs.EndsGrowing.{ends_longer}
use Rattle.prefix_plans.proofs.Reaching.{next_cost, next_at, next_least, nowhere_lost, longer}
use Rattle.prefix_plans.proofs.reach.reach.Goals as goal

pub left_from-requires-clause-reached : goal.left_from-requires-clause-reached
left_from-requires-clause-reached g c =
    let v = g.S.Space.view c.args.heuristic.now.space.now in
    let f = c.args.heuristic.now.search.now in
    let ss = states_of c.args.heuristic.now.graph.now in
    let i = c.args.entry.node in
    let cost = next_cost v f ss c.args.tree.now i c.requires.tree c.requires.entry.inside c.args.step c.requires.step
    c.args.entry c.requires.entry refl (c.args.entry.cost + c.cost_of.result)
    (omega (arith, c.cost_of.ensures)) in
    subst (λ (s : State). ReachedAt v.system (c.args.entry.cost + c.cost_of.result) s) (sym c.state-next.ensures)
    (next_at v f ss c.args.tree.now i c.requires.tree c.requires.entry.inside c.args.step c.requires.step
    (c.args.entry.cost + c.cost_of.result) cost)

pub left_from-requires-clause-low : goal.left_from-requires-clause-low
left_from-requires-clause-low g c =
    let v = g.S.Space.view c.args.heuristic.now.space.now in
    let f = c.args.heuristic.now.search.now in
    let ss = states_of c.args.heuristic.now.graph.now in
    let low = ends_longer v f c.args.tree.now c.args.entry c.requires.entry c.args.step.op c.left_after-low.result
    (omega (arith, c.left_after-low.ensures, c.cost_of.ensures)) in
    subst (λ (s : State). CostsAtLeast v.system s c.left_after-low.result) (sym c.state-next.ensures)
    (next_least v f ss c.args.tree.now c.args.entry.node c.requires.tree c.requires.entry.inside c.args.step
    c.requires.step c.left_after-low.result low)

pub goal_after-requires-clause-reached : goal.goal_after-requires-clause-reached
goal_after-requires-clause-reached g c = subst (IsReached (g.S.Space.view c.args.heuristic.now.space.now).system)
    (sym c.state-next.ensures) (c.requires.graph.reached c.args.step.to c.requires.step.within)

pub goal_after-requires-clause-left : goal.goal_after-requires-clause-left
goal_after-requires-clause-left g c = (rw c.in-Some.is at c.left_from.ensures).least

pub returns-in-None : goal.returns-in-None
returns-in-None g c =
    let v = g.S.Space.view c.args.heuristic.now.space.now in
    let f = c.args.heuristic.now.search.now in
    let ss = states_of c.args.heuristic.now.graph.now in
    let cost = c.args.entry.cost + c.cost_of.result in
    nowhere_lost v f ss c.args.tree.now c.args.entry.node c.requires.tree c.requires.entry.inside c.args.step
    c.requires.step (subst (λ (s : State). IsEndLeft v f (c.args.entry.cost + c.cost_of.result) s None)
    c.state-next.ensures (rw c.in-None.is at c.left_from.ensures))

pub returns-in_ok-at_goal-in-Some : goal.returns-in_ok-at_goal-in-Some
returns-in_ok-at_goal-in-Some g c =
    let v = g.S.Space.view c.args.heuristic.now.space.now in
    let f = c.args.heuristic.now.search.now in
    let ss = states_of c.args.heuristic.now.graph.now in
    let i = c.args.entry.node in
    let sum = c.args.entry.cost + c.cost_of.result in
    let cost = next_cost v f ss c.args.tree.now i c.requires.tree c.requires.entry.inside c.args.step c.requires.step
    c.args.entry c.requires.entry refl (c.args.entry.cost + c.cost_of.result)
    (omega (arith, c.cost_of.ensures)) in
    let left = subst (λ (s : State). IsEndLeft v f (c.args.entry.cost + c.cost_of.result) s (Some c.in-Some.left))
    c.state-next.ensures (rw c.in-Some.is at c.left_from.ensures) in
    let goal = subst (λ (s : State). Decides c.in_ok-at_goal-in-Some.at_goal (IsTrue (v.system.goal s))) c.state-next.ensures c.in_ok-at_goal-in-Some.ensures in
    let small : v.system.cost c.args.step.op < 2 ^ 64 = omega (arith, c.cost_of.ensures) in (
      longer v f ss c.args.tree.now i c.requires.tree c.requires.entry.inside c.args.step c.requires.step
          (c.requires.graph.listed c.args.step.to c.requires.step.within)
          (record { cost = c.args.entry.cost + c.cost_of.result; left = c.in-Some.left; at_goal = c.in_ok-at_goal-in-Some.at_goal }) cost left goal,
      small,
    )
