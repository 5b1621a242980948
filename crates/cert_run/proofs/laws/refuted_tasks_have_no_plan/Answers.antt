use Rattle.certificates.specs.Meaning.{Named}
use Rattle.certificates.proofs.NoPlan.{no_plan}
use Rattle.cert_run.proofs.laws.refuted_tasks_have_no_plan.Goals as goal

pub returns : goal.returns
returns c = λ task bytes text fits refuted p is. let judged = refuted.0 in no_plan task (Named task judged.0) p fits judged.2 is
