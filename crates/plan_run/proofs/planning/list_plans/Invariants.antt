use Rattle.std.proofs.Common.{◌≡◌}
use Rattle.plan_run.specs.Lists.{asked}
use Rattle.plan_run.specs.Jobs.{aim_of}
use Rattle.plan_run.proofs.Going.{Owed}
use Rattle.plan_run.proofs.Listed.{Listed}
use Rattle.plan_run.proofs.Serving.{Stands}
use Rattle.plan_run.proofs.planning.list_plans.Given as goal

-- so many plans were given, the blocks so far went out and what pends is the rest, and the sink's count has not moved
abbrev pub invariant-plans : goal.invariant-plans
invariant-plans g l =
    let view = g.K.Sink.view in
    let engine = g.I.LazyPlans in
    let job = l.fn.job in
    let task = job.task.now in
    let earlier = job.earlier.now in
    record {
      stands : Stands engine.system engine.mode engine.most engine.pends engine.lawful engine.last task job.mode job.limit (asked job.wanted) l.number l.plans;
      listed : Listed (aim_of job) (Owed task job.mode job.limit earlier (engine.pends l.plans.inner)) (view l.fn.sink) (view l.sink) l.number;
      quiet : (view l.sink).faults ≡ (view l.fn.sink).faults;
    }
