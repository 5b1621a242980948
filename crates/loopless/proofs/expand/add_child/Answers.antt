use Rattle.std.proofs.Common.{◌≡◌, ◌<◌, ◌+◌, ◌^◌, ◌∙◌, inr, arith}
use Rattle.prefix_tree.specs.StateGraph.{states_of}
use Rattle.loopless.proofs.Growing.{ends_longer, grows_push, entry_push}
use Rattle.loopless.proofs.expand.add_child.Goals as goal

pub reach-requires-clause-low : goal.reach-requires-clause-low
reach-requires-clause-low g c =
    let y = (g.S.Space.view c.args.heuristic.now.space.now).system in
    rw c.deref.ensures.value (ends_longer y c.args.tree.now.items c.args.entry c.args.step.op c.left_after-low.result c.requires.entry
    (omega (arith, c.left_after-low.ensures, c.cost_of.ensures)))

pub returns-in_err-push-in-Some-clause-grows : goal.returns-in_err-push-in-Some-clause-grows
returns-in_err-push-in-Some-clause-grows g c =
    let h = c.args.heuristic.now in
    let longer = rw c.in-Some.is at (rw c.deref.ensures.value at c.in_ok-reach.ensures.reach) in
    rw c.in_ok-node-in-Some.ensures.child
    (grows_push (g.S.Space.view h.space.now).system (states_of h.graph.now) c.args.tree.now.items c.args.entry c.args.step c.requires.tree
    c.requires.entry c.requires.step c.in-Some.to longer)

pub returns-in_ok-push-in-Some-clause-grows : goal.returns-in_ok-push-in-Some-clause-grows
returns-in_ok-push-in-Some-clause-grows g c =
    let h = c.args.heuristic.now in
    let longer = rw c.in-Some.is at (rw c.deref.ensures.value at c.in_ok-reach.ensures.reach) in
    rw c.in_ok-node-in-Some.ensures.child
    (grows_push (g.S.Space.view h.space.now).system (states_of h.graph.now) c.args.tree.now.items c.args.entry c.args.step c.requires.tree
    c.requires.entry c.requires.step c.in-Some.to longer)

pub returns-in_ok-push-in-Some-clause-added : goal.returns-in_ok-push-in-Some-clause-added
returns-in_ok-push-in-Some-clause-added g c =
    let h = c.args.heuristic.now in
    let y = (g.S.Space.view h.space.now).system in
    let longer = rw c.in-Some.is at (rw c.deref.ensures.value at c.in_ok-reach.ensures.reach) in
    let is = c.entry_of.ensures in
    let k = c.entry_of.result in
    let cost : k.cost ≡ c.args.entry.cost + y.cost c.args.step.op = omega (arith, is.cost, c.cost_of.ensures) in
    let bound : k.bound.0 ≡ k.cost + c.in-Some.to.left.cost = omega (arith, is.bound, is.cost) in
    let small : y.cost c.args.step.op < 2 ^ 64 = omega (arith, c.cost_of.ensures) in
    let entry = entry_push y (states_of h.graph.now) c.args.tree.now.items c.args.entry c.args.step c.requires.tree c.requires.entry
    c.requires.step c.in-Some.to longer k (is.node ∙ c.in_ok-node-in-Some.ensures.place) cost bound is.at_goal small in
    rw c.in_ok-node-in-Some.ensures.child (inr (k, c.in_ok-push-in-Some.ensures.items, entry.0, entry.1))
