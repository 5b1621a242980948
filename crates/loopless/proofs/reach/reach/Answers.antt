use Rattle.std.proofs.Common.{IsTrue, sym, subst}
use Rattle.std.specs.Bool.{Decides}
use Rattle.space_api.proofs.Trading.{valid_clash}
use Rattle.symk_task.specs.declared.parts.Mode.TheVariants.{Loopless}
use Rattle.task_system.specs.System.{State}
use Rattle.space_api.specs.States.{IsReached}
use Rattle.prefix_tree.specs.StateGraph.{states_of}
use Rattle.loopless.specs.Left.{RestCostsAtLeast}
use Rattle.loopless.proofs.Reaching.{next_least, passed_lost, nowhere_lost, longer}
use Rattle.loopless.proofs.reach.reach.Goals as goal

pub returns-then-passes-clause-reach : goal.returns-then-passes-clause-reach
returns-then-passes-clause-reach g c =
    let y = (g.S.Space.view c.args.heuristic.now.space.now).system in
    let ss = states_of c.args.heuristic.now.graph.now in
    let passed = c.passes.ensures y Loopless ss c.requires.tree c.requires.informed.graph.once c.requires.step.within in
    passed_lost y ss c.args.tree.now c.args.node c.requires.tree c.requires.node c.args.step c.requires.step (passed.0 c.if-passes.true)

pub left_from-requires-clause-low : goal.left_from-requires-clause-low
left_from-requires-clause-low g c =
    let y = (g.S.Space.view c.args.heuristic.now.space.now).system in
    let ss = states_of c.args.heuristic.now.graph.now in
    next_least y ss c.args.tree.now c.args.node c.requires.tree c.requires.node c.args.step c.requires.step c.args.low c.requires.low

pub goal_after-requires-clause-reached : goal.goal_after-requires-clause-reached
goal_after-requires-clause-reached g c =
    subst (IsReached (g.S.Space.view c.args.heuristic.now.space.now).system) (sym c.state-next.ensures)
    (c.requires.informed.graph.reached c.args.step.to c.requires.step.within)

pub goal_after-requires-clause-left : goal.goal_after-requires-clause-left
goal_after-requires-clause-left g c =
    let left = rw c.in-Some.is at c.left_from.ensures.left in
    subst (λ (s : State). RestCostsAtLeast (g.S.Space.view c.args.heuristic.now.space.now).system s c.in-Some.left.cost) (sym c.state-next.ensures) left.0

pub returns-in-None-clause-reach : goal.returns-in-None-clause-reach
returns-in-None-clause-reach g c =
    let y = (g.S.Space.view c.args.heuristic.now.space.now).system in
    let ss = states_of c.args.heuristic.now.graph.now in
    nowhere_lost y ss c.args.tree.now c.args.node c.requires.tree c.requires.node c.args.step c.requires.step (rw c.in-None.is at c.left_from.ensures.left)

pub returns-in_ok-at_goal-in-Some-clause-reach : goal.returns-in_ok-at_goal-in-Some-clause-reach
returns-in_ok-at_goal-in-Some-clause-reach g c =
    let y = (g.S.Space.view c.args.heuristic.now.space.now).system in
    let ss = states_of c.args.heuristic.now.graph.now in
    let passed = c.passes.ensures y Loopless ss c.requires.tree c.requires.informed.graph.once c.requires.step.within in
    let left = rw c.in-Some.is at c.left_from.ensures.left in
    let goal = subst (λ (s : State). Decides c.in_ok-at_goal-in-Some.at_goal (IsTrue (y.goal s))) c.state-next.ensures c.in_ok-at_goal-in-Some.ensures in
    longer y ss c.args.tree.now c.args.node c.requires.tree c.requires.node c.args.step c.requires.step
    (c.requires.informed.graph.listed c.args.step.to c.requires.step.within) (λ l. valid_clash (passed.1 l) c.if-passes.false)
    (record { left = c.in-Some.left; at_goal = c.in_ok-at_goal-in-Some.at_goal }) left.0 left.1 goal
