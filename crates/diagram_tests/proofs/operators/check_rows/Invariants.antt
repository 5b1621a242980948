use Rattle.trans_merge.specs.Relations.{AreRelationsOf}
use Rattle.diagram_tests.proofs.operators.check_rows.Given as goal

abbrev pub invariant-loop-row : goal.invariant-loop-row
invariant-loop-row g l = AreRelationsOf l.task l.order l.ops l.relations
