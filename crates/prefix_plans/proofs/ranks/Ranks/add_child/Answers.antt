use Rattle.std.proofs.Common.{◌≡◌, ◌≤◌, ◌+◌, ◌-◌, ◌*◌, ◌^◌, ◌∙◌, inr, length, refl, arith}
use Rattle.prefix_tree.specs.StateGraph.{states_of}
use Rattle.prefix_tree.specs.declared.tree.Node.{Node}
use Rattle.symk_task.specs.declared.parts.Mode.TheVariants.{TopK}
use Rattle.prefix_tree.proofs.Going.{next_run}
use Rattle.prefix_plans.proofs.EndsGrowing.{grows_push, room_push, entry_push}
use Rattle.prefix_plans.proofs.ranks.Ranks.add_child.Goals as goal

pub entry_of-requires-clause-cost : goal.entry_of-requires-clause-cost
entry_of-requires-clause-cost g c =
    let v = g.S.Space.view c.args.heuristic.now.space.now in
    let nodes = c.args.tree.now.items in
    let n : Node = record { parent = c.args.entry.node; op = c.args.step.op; state = c.args.step.to } in
    let longer = rw c.in-Some.is at (rw c.deref.ensures.value at c.in_ok-reach.ensures) in
    let room : c.in-Some.to.cost ≤ (2 ^ 64 - 1) * length c.args.tree.now.items =
    room_push v c.args.heuristic.now.search.now (states_of c.args.heuristic.now.graph.now) nodes n c.requires.tree c.requires.entry.inside
    c.in-Some.to longer.0 c.args.entry c.requires.entry refl longer.1 in
    omega (arith, room, c.in_ok-node-in-Some.ensures.place)

pub returns-in_err-push-in-Some-clause-grows : goal.returns-in_err-push-in-Some-clause-grows
returns-in_err-push-in-Some-clause-grows g c =
    let v = g.S.Space.view c.args.heuristic.now.space.now in
    let ss = states_of c.args.heuristic.now.graph.now in
    let nodes = c.args.tree.now.items in
    let n : Node = record { parent = c.args.entry.node; op = c.args.step.op; state = c.args.step.to } in
    let longer = rw c.in-Some.is at (rw c.deref.ensures.value at c.in_ok-reach.ensures) in
    let run = next_run v.system TopK ss nodes c.args.entry.node c.requires.tree c.requires.entry.inside c.args.step c.requires.step in
    rw c.in_ok-node-in-Some.ensures.child (grows_push v c.args.heuristic.now.search.now ss nodes n c.requires.tree
    c.requires.entry.inside c.in-Some.to longer.0 c.requires.step.within run)

pub returns-in_ok-push-in-Some-clause-grows : goal.returns-in_ok-push-in-Some-clause-grows
returns-in_ok-push-in-Some-clause-grows g c =
    let v = g.S.Space.view c.args.heuristic.now.space.now in
    let ss = states_of c.args.heuristic.now.graph.now in
    let nodes = c.args.tree.now.items in
    let n : Node = record { parent = c.args.entry.node; op = c.args.step.op; state = c.args.step.to } in
    let longer = rw c.in-Some.is at (rw c.deref.ensures.value at c.in_ok-reach.ensures) in
    let run = next_run v.system TopK ss nodes c.args.entry.node c.requires.tree c.requires.entry.inside c.args.step c.requires.step in
    rw c.in_ok-node-in-Some.ensures.child (grows_push v c.args.heuristic.now.search.now ss nodes n c.requires.tree
    c.requires.entry.inside c.in-Some.to longer.0 c.requires.step.within run)

pub returns-in_ok-push-in-Some-clause-added : goal.returns-in_ok-push-in-Some-clause-added
returns-in_ok-push-in-Some-clause-added g c =
    let v = g.S.Space.view c.args.heuristic.now.space.now in
    let ss = states_of c.args.heuristic.now.graph.now in
    let nodes = c.args.tree.now.items in
    let n : Node = record { parent = c.args.entry.node; op = c.args.step.op; state = c.args.step.to } in
    let longer = rw c.in-Some.is at (rw c.deref.ensures.value at c.in_ok-reach.ensures) in
    let k = c.entry_of.result in
    let e = c.entry_of.ensures in
    let place = c.entry_of.ensures.node ∙ c.in_ok-node-in-Some.ensures.place in
    let bound : c.entry_of.result.bound.0 ≡ c.entry_of.result.cost + c.in-Some.to.left.cost =
    omega (arith, c.entry_of.ensures.bound, c.entry_of.ensures.cost) in
    let entry = entry_push v c.args.heuristic.now.search.now ss nodes n c.requires.tree c.requires.entry.inside c.in-Some.to
    longer.0 c.args.entry c.requires.entry refl k place e.cost bound e.ring e.settled e.at_goal
    e.small e.range longer.1 in
    rw c.in_ok-node-in-Some.ensures.child (inr (k, c.in_ok-push-in-Some.ensures.items, entry.0, entry.1))
