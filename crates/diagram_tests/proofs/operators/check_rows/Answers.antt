use Rattle.trans_merge.proofs.Kept.{relations_kept}
use Rattle.diagram_tests.proofs.operators.check_rows.Goals as goal

pub loop-row-preserved : goal.loop-row-preserved
loop-row-preserved g c = relations_kept c.args.task.now c.args.order.now c.loop-row.ops c.check_row.new.ops c.args.relations.now c.check_row.ensures c.loop-row.invariant
