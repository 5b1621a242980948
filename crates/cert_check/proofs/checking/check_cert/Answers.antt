use Rattle.std.proofs.Common.{subst}
use Rattle.certificates.specs.Meaning.{Named}
use Rattle.certificates.proofs.NoPlan.{no_plan}
use Rattle.cert_check.specs.Judging.{JudgesCert}
use Rattle.cert_check.proofs.checking.check_cert.Goals as goal

pub returns-clause-refutes : goal.returns-clause-refutes
returns-clause-refutes c = λ e p. no_plan c.args.task.now (Named c.args.task.now c.in_ok-cert.cert) p c.parts.ensures.fits
    (subst (JudgesCert c.args.task.now (Named c.args.task.now c.in_ok-cert.cert)) e c.in_ok-verdict.ensures)
