use Rattle.std.proofs.Common.{◌≡◌, ℕ, IsSome, not, List, ◌++◌, sym, ◌∙◌, subst, ap}
use Rattle.prefix_tree.specs.StateGraph.{states_of, moves_at}
use Rattle.prefix_tree.specs.Tree.{path_at, end_at}
use Rattle.prefix_tree.specs.declared.entry.Entry.{Entry}
use Rattle.stubborn_sets.specs.Closing.{has_mark}
use Rattle.prefix_plans.specs.Children.{AreChildrenBy}
use Rattle.prefix_plans.proofs.EndsGrowing.{entry_like}
use Rattle.prefix_plans.proofs.Growing.{children_like}
use Rattle.member_plans.specs.Children.{AreEnough}
use Rattle.member_plans.proofs.Choosing.{enough_marked, enough_all}
use Rattle.member_plans.proofs.expand.add_enough.Goals as goal

pub returns-then-is_one_nearer-clause-children : goal.returns-then-is_one_nearer-clause-children
returns-then-is_one_nearer-clause-children g c =
    let a = c.args.tree.now.items in
    let i = c.args.entry.node in
    enough_marked (g.S.Space.view c.args.heuristic.now.space.now) c.args.heuristic.now.search.now c.add_children.new.tree.items (path_at a i)
    (end_at (states_of c.args.heuristic.now.graph.now) a i) c.args.marks.now c.in_ok-children.children.items c.requires.marks
    c.in_ok-children.ensures.children

pub add_children-requires-2-clause-stands : goal.add_children-requires-2-clause-stands
add_children-requires-2-clause-stands g c =
    let i = c.add_children.ensures.grows in
    let z = c.requires.stands in
    record {
      search = z.search;
      graph = z.graph;
      tree = i.tree;
      entry = entry_like (g.S.Space.view c.args.heuristic.now.space.now) c.args.heuristic.now.search.now c.args.tree.now.items c.add_children.new.tree.items
          i.longer i.paths c.args.entry z.entry;
    }

pub add_children-requires-2-clause-found : goal.add_children-requires-2-clause-found
add_children-requires-2-clause-found g c = subst (λ (k : ℕ). IsSome (moves_at c.args.heuristic.now.graph.now k))
    (sym (c.add_children.ensures.grows.ends c.args.entry.node c.requires.stands.entry.inside)) c.requires.found

pub returns-clause-children : goal.returns-clause-children
returns-clause-children g c =
    let v = g.S.Space.view c.args.heuristic.now.space.now in
    let f = c.args.heuristic.now.search.now in
    let a = c.args.tree.now.items in
    let b = c.add_children.new.tree.items in
    let t = c.add_children-2.new.tree.items in
    let i = c.args.entry.node in
    let e = path_at a i in
    let end = end_at (states_of c.args.heuristic.now.graph.now) a i in
    let marks = c.args.marks.now in
    let m = c.add_children-2.ensures.grows in
    let kids = c.in_ok-children.children.items in
    let more = c.in_ok-others.others.items in
    let one = children_like v f b t m.longer m.paths e (has_mark marks) v.system.operators kids c.in_ok-children.ensures.children in
    let two = subst (λ (p : List ℕ). AreChildrenBy v f t p (λ op. not (has_mark marks op)) v.system.operators more)
    (c.add_children.ensures.grows.paths i c.requires.stands.entry.inside)
    c.in_ok-others.ensures.children in
    subst (AreEnough v f t e end)
    (sym (c.in_ok-extend_from_slice.ensures.items ∙ ap (λ (l : List Entry). kids ++ l) c.deref-2.ensures.value))
    (enough_all v f t e end marks kids more one two)
