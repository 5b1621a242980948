use Rattle.bdd_table.specs.Diagram.{IsReduced}
use Rattle.cert_check.proofs.Carrying.{AreWatched}
use Rattle.cert_check.proofs.judging.first_leaving.Given as goal

abbrev pub invariant-operators : goal.invariant-operators
invariant-operators l = record {
  reduced : IsReduced l.ops;
  watched : AreWatched l.task l.order l.fn.ops l.fn.members l.ops l.derived l.members l.op;
}
