use Rattle.std.proofs.Common.{◌≡◌, ℕ, ◌+◌, ◌++◌, ◌∷◌, [], List, ◌∙◌, ap, arith, sym, subst, length, slice_index}
use Rattle.bdd_table.specs.declared.node.Node.{Node}
use Rattle.bdd_table.specs.Diagram.{node_of}
use Rattle.bdd_table.specs.Collected.{AreMoved}
use Rattle.bdd_table.proofs.Moving.{node_moved, skipped}
use Rattle.bdd_table.proofs.rebuild.move_node.Goals as goal

pub returns-then-not-marks-id-clause-moved : goal.returns-then-not-marks-id-clause-moved
returns-then-not-marks-id-clause-moved c = skipped c.args.old.now c.args.kept.now.items c.args.marks.now c.args.places.now c.args.id 0
    c.requires.reduced c.requires.inner c.requires.known c.requires.moved c.if-not-marks-id.true

pub returns-clause-moved : goal.returns-clause-moved
returns-clause-moved c =
    let moved = node_moved c.args.old.now c.args.kept.now.items c.args.marks.now c.args.places.now c.args.id
    c.requires.reduced c.requires.closed c.requires.inner c.requires.known c.requires.moved c.if-not-marks-id.false in
    let items = c.in_ok-push.ensures.items ∙ ap (λ (n : Node). c.args.kept.now.items
    ++ node_of n.level (slice_index c.args.places.now n.lo) (slice_index c.args.places.now n.hi) ∷ []) c.get-node.ensures.is in
    let place : c.len-place.result ≡ length c.args.kept.now.items = omega (arith, c.len-place.ensures) in
    subst (λ (p : ℕ). AreMoved c.args.old.now c.args.marks.now c.push.new.self.items (c.args.places.now ++ p ∷ []) (c.args.id + 1)) (sym place)
    (subst (λ (l : List Node). AreMoved c.args.old.now c.args.marks.now l (c.args.places.now ++ length c.args.kept.now.items ∷ []) (c.args.id + 1)) (sym items) moved)
