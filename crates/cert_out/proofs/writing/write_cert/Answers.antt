use Rattle.std.proofs.Common.{◌≡◌, ◌∙◌, ℕ, List, subst}
use Rattle.std.specs.Prelude.{Option, MatchOption}
use Rattle.symk_task.specs.declared.parts.TaskParts.{TaskParts}
use Rattle.task_system.specs.System.{System, IsSystemPlan}
use Rattle.task_system.proofs.RunsLaw.{plan_law}
use Rattle.bdd_space.specs.Seen.{seen}
use Rattle.certificates.specs.Meaning.{Named}
use Rattle.certificates.proofs.NoPlan.{no_plan}
use Rattle.cert_out.specs.Closed.{IsClosedSet}
use Rattle.cert_out.specs.Written.{IsProof}
use Rattle.cert_out.proofs.writing.write_cert.Goals as goal

pub returns-in-None : goal.returns-in-None
returns-in-None c =
    let found = subst (λ (o : Option ℕ). MatchOption o ((p : List ℕ) × IsSystemPlan (seen c.in_ok-space.space).system p)
    (IsClosedSet (seen c.closure.new.space))) c.in-None.is c.in_ok-found.ensures.ok in
    (found.0, (plan_law c.args.task.now found.0 c.parts.ensures.fits).0 (subst (λ (y : System). IsSystemPlan y found.0) c.in_ok-space.ensures.system found.1))

pub text_of-requires : goal.text_of-requires
text_of-requires c =
    subst (λ (o : Option ℕ). MatchOption o ((p : List ℕ) × IsSystemPlan (seen c.in_ok-space.space).system p)
    (IsClosedSet (seen c.closure.new.space))) c.in-Some.is c.in_ok-found.ensures.ok

pub returns : goal.returns
returns c =
    let task = c.args.task.now in
    let same : c.closure.new.space.task ≡ task = c.closure.ensures.task ∙ c.in_ok-space.ensures.task in
    let proof : IsProof task c.in_ok-text-in-Some.text.items =
    subst (λ (t : TaskParts). IsProof t c.in_ok-text-in-Some.text.items) same c.in_ok-text-in-Some.ensures in
    (proof, λ p plan. no_plan task (Named task proof.cert) p c.parts.ensures.fits proof.inductive plan)
