use Rattle.std.proofs.Common.{None}
use Rattle.symk_task.specs.declared.parts.Mode.TheVariants.{TopK}
use Rattle.plan_run.proofs.Costed.{Costed}
use Rattle.plan_run.proofs.Serving.{Stands}
use Rattle.plan_run.proofs.costs.costs_of.Given as goal

-- so many plans were given, and the costs are those of the plans so far
abbrev pub invariant-plans : goal.invariant-plans
invariant-plans g l =
    let engine = g.I.LazyPlans in
    record {
      stands : Stands engine.system engine.mode engine.most engine.pends engine.lawful engine.last l.task TopK None 20 l._number l.plans;
      costed : Costed l.task (engine.pends l.plans.inner) l.costs.cheapest l.costs.dearest l.costs.total l._number;
    }
