use Rattle.std.proofs.Common.{arith, subst, ◌∙◌, Bool, ◌≡◌, ◌+◌, ◌-◌}
use Rattle.std.proofs.Math.ListN.{length-set}
use Rattle.bdd_table.specs.Collected.{MarkedFrom}
use Rattle.bdd_table.proofs.Marking.{marked_step, root_marked}
use Rattle.bdd_table.proofs.marks.mark.Goals as goal

pub roots-preserved : goal.roots-preserved
roots-preserved c =
    let m = root_marked c.args.table.now c.args.roots.now c.roots.marks.items c.roots.root-index (omega arith)
    (omega (arith, c.roots.invariant.as_long, c.requires c.roots.root-index)) c.roots.invariant.roots_marked
    c.roots.invariant.only in
    record {
      as_long = length-set {A = Bool} c.roots.marks.items _ _ ∙ c.roots.invariant.as_long;
      roots_marked = m.0;
      only = m.1;
    }

pub nodes-preserved : goal.nodes-preserved
nodes-preserved c =
    let id = c.held-count.result + 2 - 1 - c.nodes.step in
    let next : c.held-count.result + 2 - c.nodes.step ≡ id + 1 = omega arith in
    let same : id ≡ c.held-count.result + 2 - (c.nodes.step + 1) = omega arith in
    let was : MarkedFrom c.args.table.now c.args.roots.now c.nodes.marks.items (id + 1) =
    subst (MarkedFrom c.args.table.now c.args.roots.now c.nodes.marks.items) next c.nodes.invariant in
    subst (MarkedFrom c.args.table.now c.args.roots.now c.mark_children.new.marks.items) same
    (marked_step id was c.mark_children.ensures.as_long c.mark_children.ensures.kept c.mark_children.ensures.later
    c.mark_children.ensures.lo c.mark_children.ensures.hi c.mark_children.ensures.only)
