use Rattle.std.proofs.Common.{Bool, cond, sym, ◌∙◌, ap}
use Rattle.bdd_table.specs.Diagram.{at}
use Rattle.bdd_sets.proofs.Children.{child_same}
use Rattle.bdd_sets.proofs.following.child_at.Goals as goal

pub returns-then-bit-clause-same : goal.returns-then-bit-clause-same
returns-then-bit-clause-same c =
    let node = at c.args.table.now c.args.id in
    child_same c.args.table.now c.held.ensures.reduced c.args.id c.args.level c.hi.result c.args.bit c.requires (sym c.level.ensures ∙ c.if-level.false)
    (c.hi.ensures.value ∙ sym (ap (λ (t : Bool). cond t node.hi node.lo) c.if-bit.true))

pub returns-else-bit-clause-same : goal.returns-else-bit-clause-same
returns-else-bit-clause-same c =
    let node = at c.args.table.now c.args.id in
    child_same c.args.table.now c.held.ensures.reduced c.args.id c.args.level c.lo.result c.args.bit c.requires (sym c.level.ensures ∙ c.if-level.false)
    (c.lo.ensures.value ∙ sym (ap (λ (t : Bool). cond t node.hi node.lo) c.if-bit.false))
