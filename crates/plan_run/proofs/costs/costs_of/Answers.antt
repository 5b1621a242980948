use Rattle.std.proofs.Common.{None, ◌+◌, ◌<◌, ◌≤◌, sym, ap, ◌∙◌, min, max, arith}
use Rattle.symk_task.specs.declared.parts.Mode.TheVariants.{TopK}
use Rattle.plan_run.proofs.Given.{gave_listable}
use Rattle.plan_run.proofs.Costed.{costed_none, costed_more, costed_as, costed_not_all, costed_not_in_range}
use Rattle.plan_run.proofs.Serving.{limit_gave, limit_none, limit_range, stands_more, stands_first, given_first}
use Rattle.plan_run.proofs.costs.costs_of.Goals as goal

pub plans-init : goal.plans-init
plans-init g c =
    let e = g.I.LazyPlans in
    record {
      stands = stands_first e.system e.mode e.most e.pends e.lawful e.last c.args.task.now TopK None 20 c.args.engine c.new-plans.result c.new-plans.ensures c.requires.owes.serves;
      costed = costed_none c.args.task.now (e.pends c.new-plans.result.inner)
          (given_first e.system e.mode e.most e.pends e.lawful e.last c.args.task.now TopK None 20 c.args.engine c.new-plans.result c.new-plans.ensures
          c.parts.ensures.fits c.requires.owes (g.met.I.LazyPlans.fair c.args.engine c.requires.owes.serves.holds));
    }

pub plan_cost-requires : goal.plan_cost-requires
plan_cost-requires g c =
    let e = g.I.LazyPlans in
    let within : c.plans._number < 20 = omega arith in
    let gave = limit_gave e.system e.mode e.most e.pends e.lawful e.last c.args.task.now TopK None 20 c.plans._number c.plans.plans c.next.new.self c.in-Some-Ok.field-0 c.in-Some-Ok.plan c.in-Some-Ok.field-0-is c.plans.invariant.stands within c.in-Some-Ok.ensures.steps in
    (gave_listable c.args.task.now TopK None (e.pends c.plans.plans.inner) (e.pends c.next.new.self.inner) c.plans.invariant.costed.plans c.in-Some-Ok.plan (omega arith) c.plans.invariant.costed.given gave).operators

pub overflow_cast-plan_cost : goal.overflow_cast-plan_cost
overflow_cast-plan_cost g c =
    let e = g.I.LazyPlans in
    let within : c.plans._number < 20 = omega arith in
    let gave = limit_gave e.system e.mode e.most e.pends e.lawful e.last c.args.task.now TopK None 20 c.plans._number c.plans.plans c.next.new.self c.in-Some-Ok.field-0 c.in-Some-Ok.plan c.in-Some-Ok.field-0-is c.plans.invariant.stands within c.in-Some-Ok.ensures.steps in
    let cost = (gave_listable c.args.task.now TopK None (e.pends c.plans.plans.inner) (e.pends c.next.new.self.inner) c.plans.invariant.costed.plans c.in-Some-Ok.plan (omega arith) c.plans.invariant.costed.given gave).cost in
    let same = c.plan_cost.ensures in
    omega (arith, cost, same)

pub with-costs-requires : goal.with-costs-requires
with-costs-requires g c =
    let e = g.I.LazyPlans in
    let within : c.plans._number < 20 = omega arith in
    let gave = limit_gave e.system e.mode e.most e.pends e.lawful e.last c.args.task.now TopK None 20 c.plans._number c.plans.plans c.next.new.self c.in-Some-Ok.field-0 c.in-Some-Ok.plan c.in-Some-Ok.field-0-is c.plans.invariant.stands within c.in-Some-Ok.ensures.steps in
    let cost = (gave_listable c.args.task.now TopK None (e.pends c.plans.plans.inner) (e.pends c.next.new.self.inner) c.plans.invariant.costed.plans c.in-Some-Ok.plan (omega arith) c.plans.invariant.costed.given gave).cost in
    let same = c.plan_cost.ensures in
    let bound = c.plans.invariant.costed.bound in
    let few : c.plans._number ≤ 19 = omega arith in
    omega (arith, cost, same, bound, few)

pub unreachable-requires-in-None : goal.unreachable-requires-in-None
unreachable-requires-in-None g c =
    let e = g.I.LazyPlans in
    let within : c.plans._number < 20 = omega arith in
    let costs = c.plans.costs in
    costed_not_all c.args.task.now (e.pends c.plans.plans.inner) costs.cheapest costs.dearest costs.total c.plans._number c.parts.ensures.fits c.plans.invariant.costed (omega arith) c.requires.many
    (limit_none e.system e.mode e.most e.pends e.lawful e.last c.args.task.now TopK None 20 c.plans._number c.plans.plans c.next.new.self c.plans.invariant.stands within c.in-None.ensures.steps)

pub unreachable-requires : goal.unreachable-requires
unreachable-requires g c =
    let e = g.I.LazyPlans in
    let within : c.plans._number < 20 = omega arith in
    let costs = c.plans.costs in
    costed_not_in_range c.args.task.now (e.pends c.plans.plans.inner) costs.cheapest costs.dearest costs.total c.plans._number c.parts.ensures.fits c.plans.invariant.costed (omega arith) c.requires.many
    (limit_range e.system e.mode e.most e.pends e.lawful e.last c.args.task.now TopK None 20 c.plans._number c.plans.plans c.next.new.self c.in-Some-Err-CostRange.field-0 c.in-Some-Err-CostRange.field-0-0 c.in-Some-Err-CostRange.field-0-is c.in-Some-Err-CostRange.field-0-0-is c.plans.invariant.stands within c.in-Some-Err-CostRange.ensures.steps)

pub plans-preserved : goal.plans-preserved
plans-preserved g c =
    let e = g.I.LazyPlans in
    let within : c.plans._number < 20 = omega arith in
    let costs = c.plans.costs in
    let after = e.pends c.next.new.self.inner in
    let gave = limit_gave e.system e.mode e.most e.pends e.lawful e.last c.args.task.now TopK None 20 c.plans._number c.plans.plans c.next.new.self c.in-Some-Ok.field-0 c.in-Some-Ok.plan c.in-Some-Ok.field-0-is c.plans.invariant.stands within c.in-Some-Ok.ensures.steps in
    let more = costed_more c.args.task.now (e.pends c.plans.plans.inner) after costs.cheapest costs.dearest costs.total c.plans._number c.in-Some-Ok.plan c.parts.ensures.fits c.plans.invariant.costed gave in
    record {
      stands = stands_more e.system e.mode e.most e.pends e.lawful e.last c.args.task.now TopK None 20 c.plans._number c.plans.plans c.next.new.self c.in-Some-Ok.field-0 c.in-Some-Ok.plan c.in-Some-Ok.field-0-is c.plans.invariant.stands within c.in-Some-Ok.ensures.steps;
      costed = costed_as (sym (c.with-costs.ensures.cheapest ∙ ap (λ n. min costs.cheapest n) c.plan_cost.ensures))
          (sym (c.with-costs.ensures.dearest ∙ ap (λ n. max costs.dearest n) c.plan_cost.ensures)) (sym (c.with-costs.ensures.total ∙ ap (λ n. costs.total + n) c.plan_cost.ensures)) more;
    }
