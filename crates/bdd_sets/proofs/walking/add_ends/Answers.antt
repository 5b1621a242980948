use Rattle.bdd_sets.proofs.Passing.{adds_more}
use Rattle.bdd_sets.proofs.walking.add_ends.Goals as goal

pub values-preserved : goal.values-preserved
values-preserved c =
    adds_more c.args.table.now c.args.block c.args.start c.held.ensures.reduced c.args.id c.values.invariant
    c.follow-end.ensures.known c.follow-end.ensures.same c.in_ok-add_end.ensures
