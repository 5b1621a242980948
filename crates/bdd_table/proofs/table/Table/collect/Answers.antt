use Rattle.std.proofs.Common.{List, ℕ, Bool, ◌∙◌, arith, subst, sym, length}
use Rattle.bdd_table.specs.declared.node.Node.{Node}
use Rattle.bdd_table.specs.Collected.{MarkedFrom, AreMoved}
use Rattle.bdd_table.proofs.Collecting.{roots_moved, all_reached, count_reached}
use Rattle.bdd_table.proofs.table.Table.collect.Goals as goal

marked : (c : goal.After-drop-marks-2) → MarkedFrom c.args.self.now c.args.roots.now c.deref.result.now 2
marked c = subst (λ (l : List Bool). MarkedFrom c.args.self.now c.args.roots.now l 2) (sym c.deref.ensures.value) c.in_ok-marks.ensures

moved : (c : goal.After-drop-marks-2)
    → AreMoved c.args.self.now c.deref.result.now c.refill.new.nodes.keys c.deref-2.result.now (length c.args.self.now)
moved c = subst (λ (l : List Node). AreMoved c.args.self.now c.deref.result.now l c.deref-2.result.now (length c.args.self.now))
    (sym (c.refill.ensures ∙ c.deref-3.ensures.value))
    (subst (λ (l : List ℕ). AreMoved c.args.self.now c.deref.result.now c.in_ok-kept.kept.items l (length c.args.self.now))
    (sym c.deref-2.ensures.value) c.in_ok-kept.ensures.moved)

pub returns-clause-moved : goal.returns-clause-moved
returns-clause-moved c = roots_moved c.args.self.now c.refill.new.nodes.keys c.deref.result.now c.deref-2.result.now c.args.roots.now
    c.move_roots.new.roots c.allocator-alloc.ensures.reduced (marked c) (moved c) c.requires (omega arith) c.move_roots.ensures

pub returns-clause-exact : goal.returns-clause-exact
returns-clause-exact c = all_reached c.args.self.now c.refill.new.nodes.keys c.deref.result.now c.deref-2.result.now c.args.roots.now
    c.move_roots.new.roots c.allocator-alloc.ensures.reduced (marked c) (moved c) c.requires (omega arith) c.move_roots.ensures

pub returns-clause-count : goal.returns-clause-count
returns-clause-count c = count_reached c.args.self.now c.refill.new.nodes.keys c.deref.result.now c.deref-2.result.now c.args.roots.now
    c.move_roots.new.roots c.allocator-alloc.ensures.reduced (marked c) (moved c) c.requires (omega arith) c.move_roots.ensures
