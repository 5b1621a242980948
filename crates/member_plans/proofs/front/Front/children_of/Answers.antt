use Rattle.std.proofs.Common.{◌<◌, ℕ, List, length, sym, subst, ap, ◌∙◌}
use Rattle.task_system.specs.System.{State, RunsInSystem}
use Rattle.prefix_tree.specs.StateGraph.{states_of, numbered_state}
use Rattle.prefix_tree.specs.Tree.{path_at}
use Rattle.stubborn_sets.specs.Stubborn.{Stubborn}
use Rattle.stubborn_sets.specs.Closing.{has_mark}
use Rattle.member_plans.proofs.front.Front.children_of.Goals as goal

pub state-state-requires : goal.state-state-requires
state-state-requires g c =
    let ss = states_of c.find_moves_at.new.graph in
    let tree = rw c.deref.ensures.value at c.find_moves_at.ensures.tree in
    let number = rw c.deref.ensures.value at c.in_ok-number.ensures.number in
    subst (λ (k : ℕ). k < length ss) (sym number) (tree.each c.args.entry.node c.requires.entry.inside).within

pub find_marks-requires : goal.find_marks-requires
find_marks-requires g c =
    let y = (g.S.Space.view c.args.space.now).system in
    let i = c.args.entry.node in
    let path = path_at c.args.self.now.tree.items i in
    let tree = rw c.deref.ensures.value at c.find_moves_at.ensures.tree in
    let number = rw c.deref.ensures.value at c.in_ok-number.ensures.number in
    let is = c.state-state.ensures ∙ ap (numbered_state (states_of c.find_moves_at.new.graph)) number in
    (y, c.requires.serves, (path, subst (λ (s : State). RunsInSystem y y.initial path s) (sym is) (tree.each i c.requires.entry.inside).runs))

pub add_enough-requires-clause-stands : goal.add_enough-requires-clause-stands
add_enough-requires-clause-stands g c = record {
  search = c.requires.search;
  graph = c.find_moves_at.ensures.graph;
  tree = rw c.deref.ensures.value at c.find_moves_at.ensures.tree;
  entry = c.requires.entry;
}

pub add_enough-requires-clause-marks : goal.add_enough-requires-clause-marks
add_enough-requires-clause-marks g c =
    let y = (g.S.Space.view c.args.space.now).system in
    let number = rw c.deref.ensures.value at c.in_ok-number.ensures.number in
    let serves = c.find_marks.ensures.serves y c.requires.serves in
    subst (λ (s : State). Stubborn y (has_mark c.marks_of-marks.result.now) s)
    (c.state-state.ensures ∙ ap (numbered_state (states_of c.find_moves_at.new.graph)) number)
    (c.marks_of-marks.ensures y c.state-state.result.now serves c.in_ok-find_marks.ensures.found)
