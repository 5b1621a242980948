use Rattle.std.proofs.Common.{sym, ◌∙◌}
use Rattle.bdd_sets.proofs.Children.{only_hi, only_lo}
use Rattle.bdd_sets.proofs.following.only_child.Goals as goal

pub returns-then-lo-eq-FALSE-clause-only : goal.returns-then-lo-eq-FALSE-clause-only
returns-then-lo-eq-FALSE-clause-only c =
    only_hi c.args.table.now c.held.ensures.reduced c.args.id c.args.level c.hi-hi.result c.requires (sym c.level.ensures ∙ c.if-level.false)
    (sym c.lo-lo.ensures.value ∙ c.if-lo-eq-FALSE.true) c.hi-hi.ensures.value

pub returns-then-hi-eq-FALSE-clause-only : goal.returns-then-hi-eq-FALSE-clause-only
returns-then-hi-eq-FALSE-clause-only c =
    only_lo c.args.table.now c.held.ensures.reduced c.args.id c.args.level c.lo-lo.result c.requires (sym c.level.ensures ∙ c.if-level.false)
    (sym c.hi-hi.ensures.value ∙ c.if-hi-eq-FALSE.true) c.lo-lo.ensures.value
