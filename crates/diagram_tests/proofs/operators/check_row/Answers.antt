use Rattle.trans_merge.proofs.Kept.{relations_kept}
use Rattle.diagram_tests.proofs.operators.check_row.Goals as goal

pub ask-requires-clause-relations : goal.ask-requires-clause-relations
ask-requires-clause-relations g c = relations_kept c.args.task.now c.args.order.now c.args.ops.now c.states.new.ops c.args.relations.now c.in_ok-set.ensures.kept c.requires
