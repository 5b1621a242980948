use Rattle.std.proofs.Common.{◌≡◌, ◌+◌, ◌<◌, ℕ, true, false, inl, List, get_or, sym, ap, subst, arith}
use Rattle.space_api.proofs.Rising.{past_none, past_next, never_falls}
use Rattle.task_system.specs.System.{State}
use Rattle.symk_task.specs.declared.parts.Mode.TheVariants.{TopK}
use Rattle.prefix_tree.specs.StateGraph.{states_of, numbered_state, move_operators, IsGraphMove}
use Rattle.prefix_tree.specs.Tree.{path_at}
use Rattle.prefix_tree.specs.declared.state_graph.Move.{Move}
use Rattle.prefix_tree.proofs.Paths.{grows_refl, grows_trans}
use Rattle.prefix_tree.proofs.Going.{op_at, ops_few, ops_many}
use Rattle.prefix_plans.specs.EndChildren.{AddsPrefixChild}
use Rattle.prefix_plans.proofs.EndsGrowing.{entry_like}
use Rattle.prefix_plans.proofs.Reaching.{lost}
use Rattle.prefix_plans.specs.Children.{is_taken, AreChildrenBy}
use Rattle.prefix_plans.proofs.Growing.{children_none, children_like, children_next, children_skip, skip_to}
use Rattle.prefix_plans.proofs.ranks.Ranks.add_by_moves.Goals as goal

pub moves-init : goal.moves-init
moves-init g c =
    let v = g.S.Space.view c.args.heuristic.now.space.now in
    let f = c.args.heuristic.now.search.now in
    let a = c.args.tree.now.items in
    let e = path_at a c.args.entry.node in
    let set = is_taken c.args.taken in
    record {
      grows = grows_refl v.system TopK (states_of c.args.heuristic.now.graph.now) a c.requires.stands.tree;
      children = (
        0,
        past_none (move_operators c.args.moves.now),
        omega arith,
        subst (AreChildrenBy v f a e set 0)
            (sym c.new-children.ensures.items) (children_none v f a e set),
      );
    }

pub add_child-requires-clause-tree : goal.add_child-requires-clause-tree
add_child-requires-clause-tree g c = c.moves.invariant.grows.tree

pub add_child-requires-clause-entry : goal.add_child-requires-clause-entry
add_child-requires-clause-entry g c =
    let v = g.S.Space.view c.args.heuristic.now.space.now in
    let i = c.moves.invariant.grows in
    entry_like v c.args.heuristic.now.search.now c.args.tree.now.items c.moves.tree.items i.longer i.paths c.args.entry c.requires.stands.entry

pub add_child-requires-clause-step : goal.add_child-requires-clause-step
add_child-requires-clause-step g c =
    let y = (g.S.Space.view c.args.heuristic.now.space.now).system in
    let ss = states_of c.args.heuristic.now.graph.now in
    let d : Move = record { op = 0; to = 0 } in
    subst (λ (s : State). IsGraphMove y ss s (get_or c.args.moves.now c.moves.step-index d))
    (sym (ap (numbered_state ss) (c.moves.invariant.grows.ends c.args.entry.node c.requires.stands.entry.inside)))
    (c.requires.moves.each c.moves.step-index d c.moves-test.true)

pub moves-preserved : goal.moves-preserved
moves-preserved g c =
    let v = g.S.Space.view c.args.heuristic.now.space.now in
    let f = c.args.heuristic.now.search.now in
    let ss = states_of c.args.heuristic.now.graph.now in
    let a = c.args.tree.now.items in
    let b = c.moves.tree.items in
    let t = c.add_child.new.tree.items in
    let e = path_at a c.args.entry.node in
    let d : Move = record { op = 0; to = 0 } in
    let moves = c.args.moves.now in
    let set = is_taken c.args.taken in
    let at = c.moves.step-index in
    let ops = move_operators moves in
    let op = get_or (move_operators moves) at 0 in
    let i = c.moves.invariant in
    let m = c.add_child.ensures.grows in
    let z = c.requires.stands in
    let old = c.moves.children.items in
    let new = c.add_child.new.children.items in
    let is = op_at moves d at c.moves-test.true in
    let inside = ops_few moves at c.moves-test.true in
    let one = c.requires.moves.each at d c.moves-test.true in
    let known : op < v.system.operators = subst (λ (k : ℕ). k < v.system.operators) is one.leads.number in
    let on : is_taken c.args.taken (get_or moves at d).op ≡ true = grind (arith, c.takes.ensures, c.if-not-takes.false) in
    let path = i.grows.paths c.args.entry.node z.entry.inside in
    let added = subst (λ (k : ℕ). AddsPrefixChild v f t e k old new) is
    (subst (λ (p : List ℕ). AddsPrefixChild v f t p (get_or moves at d).op old new) path c.in_ok-add_child.ensures.added) in
    let none = lost v f ss a c.args.entry.node z.tree z.entry.inside moves c.requires.moves in
    let sofar = skip_to v f b e set ops none old at i.children.0 op i.children.1
    (i.children.1.above at (omega arith) inside) (never_falls ops c.requires.moves.rising at) i.children.3 in
    record {
      grows = grows_trans v.system TopK ss a b t i.grows m;
      children = (
        op + 1,
        past_next ops c.requires.moves.rising at inside,
        omega (arith, known),
        children_next v f t e set op old new (children_like v f b t m.longer m.paths e set op old sofar)
            (subst (λ (k : ℕ). is_taken c.args.taken k ≡ true) is on) added,
      );
    }

pub moves-preserved-then-not-takes : goal.moves-preserved-then-not-takes
moves-preserved-then-not-takes g c =
    let v = g.S.Space.view c.args.heuristic.now.space.now in
    let f = c.args.heuristic.now.search.now in
    let ss = states_of c.args.heuristic.now.graph.now in
    let a = c.args.tree.now.items in
    let b = c.moves.tree.items in
    let e = path_at a c.args.entry.node in
    let d : Move = record { op = 0; to = 0 } in
    let moves = c.args.moves.now in
    let set = is_taken c.args.taken in
    let at = c.moves.step-index in
    let ops = move_operators moves in
    let op = get_or (move_operators moves) at 0 in
    let i = c.moves.invariant in
    let z = c.requires.stands in
    let old = c.moves.children.items in
    let is = op_at moves d at c.moves-test.true in
    let inside = ops_few moves at c.moves-test.true in
    let one = c.requires.moves.each at d c.moves-test.true in
    let known : op < v.system.operators = subst (λ (k : ℕ). k < v.system.operators) is one.leads.number in
    let off : is_taken c.args.taken (get_or moves at d).op ≡ false = grind (arith, c.takes.ensures, c.if-not-takes.true) in
    let none = lost v f ss a c.args.entry.node z.tree z.entry.inside moves c.requires.moves in
    let sofar = skip_to v f b e set ops none old at i.children.0 op i.children.1
    (i.children.1.above at (omega arith) inside) (never_falls ops c.requires.moves.rising at) i.children.3 in
    record {
      grows = i.grows;
      children = (
        op + 1,
        past_next ops c.requires.moves.rising at inside,
        omega (arith, known),
        children_skip v f b e set op old sofar (inl (subst (λ (k : ℕ). is_taken c.args.taken k ≡ false) is off)),
      );
    }

pub returns-clause-children : goal.returns-clause-children
returns-clause-children g c =
    let v = g.S.Space.view c.args.heuristic.now.space.now in
    let ss = states_of c.args.heuristic.now.graph.now in
    let i = c.moves.invariant in
    let z = c.requires.stands in
    let moves = c.args.moves.now in
    let few = ops_many moves c.moves.step-index c.moves-test.false in
    let f = c.args.heuristic.now.search.now in
    let a = c.args.tree.now.items in
    let none = lost v f ss a c.args.entry.node z.tree z.entry.inside moves c.requires.moves in
    skip_to v f c.moves.tree.items (path_at a c.args.entry.node) (is_taken c.args.taken) (move_operators moves) none
    c.moves.children.items c.moves.step-index i.children.0 v.system.operators i.children.1 i.children.2
    (λ j ge lt. absurd (omega (arith, ge, lt, few))) i.children.3
