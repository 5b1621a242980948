use Rattle.std.proofs.Common.{ℕ, All, Option, sym, subst, ◌≤◌}
use Rattle.task_system.specs.System.{System, cost_in_system}
use Rattle.lazy_plans.specs.Law.{top}
use Rattle.plan_run.specs.Jobs.{aim_of}
use Rattle.plan_run.proofs.Going.{cheap_of}
use Rattle.plan_run.proofs.Listed.{memory_lists}
use Rattle.plan_run.proofs.Serving.{rest_owed}
use Rattle.plan_run.proofs.engines.list_rest.Goals as goal

pub new-requires-clause-cheap : goal.new-requires-clause-cheap
new-requires-clause-cheap g c =
    let e = g.I.LazyPlans in
    let job = c.args.job in
    let serves = c.requires.owes.serves in
    let plans = job.earlier.now.plans in
    let cheap = cheap_of job.task.now job.mode job.limit job.earlier.now c.requires.lawful.earlier in
    let there = subst (λ (y : System). All (λ p. cost_in_system y p ≤ top job.limit) plans) (sym serves.of_task) cheap in
    subst (λ (q : Option ℕ). All (λ p. cost_in_system (e.system c.args.engine) p ≤ top q) plans) (sym serves.limited) there

pub list_plans-requires-clause-owes : goal.list_plans-requires-clause-owes
list_plans-requires-clause-owes g c =
    let a = c.in-Ok.ensures in
    rest_owed c.args.job.earlier.now.plans c.in-Ok.plans c.requires.owes a.lawful a.system a.mode a.most a.rest

pub returns-in-Err-clause-lists : goal.returns-in-Err-clause-lists
returns-in-Err-clause-lists g c = memory_lists (aim_of c.args.job) (g.K.Sink.view c.args.sink.now)
