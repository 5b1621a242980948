use Rattle.std.proofs.Common.{List, ◌++◌, subst}
use Rattle.std.specs.List.Sorted.{IsPermutation}
use Rattle.prefix_tree.specs.StateGraph.{states_of}
use Rattle.prefix_tree.specs.Tree.{path_at, end_at}
use Rattle.prefix_tree.specs.declared.entry.Entry.{Entry}
use Rattle.member_plans.proofs.Choosing.{enough_permuted}
use Rattle.member_plans.proofs.front.Front.expand.Goals as goal

pub returns-clause-children : goal.returns-clause-children
returns-clause-children g c =
    let x = c.args.self.now in
    let w = c.children_of.new.self in
    let i = c.args.entry.node in
    let kids = c.in_ok-children.children.items in
    let new = c.in_ok-here.here.items ++ c.in_ok-here.there.items in
    let perm = subst (λ (l : List Entry). IsPermutation l new) c.deref-2.ensures.value c.in_ok-here.ensures in
    enough_permuted (g.S.Space.view c.args.space.now) c.args.search.now w.tree.items (path_at x.tree.items i)
    (end_at (states_of w.graph) x.tree.items i) kids new perm c.in_ok-children.ensures.children
