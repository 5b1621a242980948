use Rattle.std.proofs.Common.{◌<◌, [], None, arith}
use Rattle.symk_task.specs.declared.parts.Mode.TheVariants.{TopK}
use Rattle.plan_run.proofs.Given.{gave_listable}
use Rattle.plan_run.proofs.Serving.{limit_gave, limit_none, limit_range, stands_first, given_first}
use Rattle.plan_run.proofs.Reached.{least_given, never_given, dear_given}
use Rattle.plan_run.proofs.reaching.cheapest_of.Goals as goal

pub plan_cost-requires : goal.plan_cost-requires
plan_cost-requires g c =
    let e = g.I.LazyPlans in
    let task = c.args.task.now in
    let stands = stands_first e.system e.mode e.most e.pends e.lawful e.last task TopK None 1 c.args.engine c.new-plans.result c.new-plans.ensures c.requires.serves in
    let given = given_first e.system e.mode e.most e.pends e.lawful e.last task TopK None 1 c.args.engine c.new-plans.result c.new-plans.ensures
    c.parts.ensures.fits c.requires (g.met.I.LazyPlans.fair c.args.engine c.requires.serves.holds) in
    let one : 0 < 1 = omega arith in
    let gave = limit_gave e.system e.mode e.most e.pends e.lawful e.last task TopK None 1 0 c.new-plans.result c.next.new.self c.in-Some-Ok.field-0 c.in-Some-Ok.plan c.in-Some-Ok.field-0-is stands one c.in-Some-Ok.ensures.steps in
    let fits = gave_listable task TopK None (e.pends c.new-plans.result.inner) (e.pends c.next.new.self.inner) [] c.in-Some-Ok.plan (omega arith) given gave in
    fits.operators

pub overflow_cast-result : goal.overflow_cast-result
overflow_cast-result g c =
    let e = g.I.LazyPlans in
    let task = c.args.task.now in
    let stands = stands_first e.system e.mode e.most e.pends e.lawful e.last task TopK None 1 c.args.engine c.new-plans.result c.new-plans.ensures c.requires.serves in
    let given = given_first e.system e.mode e.most e.pends e.lawful e.last task TopK None 1 c.args.engine c.new-plans.result c.new-plans.ensures
    c.parts.ensures.fits c.requires (g.met.I.LazyPlans.fair c.args.engine c.requires.serves.holds) in
    let one : 0 < 1 = omega arith in
    let gave = limit_gave e.system e.mode e.most e.pends e.lawful e.last task TopK None 1 0 c.new-plans.result c.next.new.self c.in-Some-Ok.field-0 c.in-Some-Ok.plan c.in-Some-Ok.field-0-is stands one c.in-Some-Ok.ensures.steps in
    let fits = gave_listable task TopK None (e.pends c.new-plans.result.inner) (e.pends c.next.new.self.inner) [] c.in-Some-Ok.plan (omega arith) given gave in
    let cost = fits.cost in
    let same = c.plan_cost.ensures in
    omega (arith, cost, same)

pub returns-in-Some-Ok : goal.returns-in-Some-Ok
returns-in-Some-Ok g c =
    let e = g.I.LazyPlans in
    let task = c.args.task.now in
    let stands = stands_first e.system e.mode e.most e.pends e.lawful e.last task TopK None 1 c.args.engine c.new-plans.result c.new-plans.ensures c.requires.serves in
    let given = given_first e.system e.mode e.most e.pends e.lawful e.last task TopK None 1 c.args.engine c.new-plans.result c.new-plans.ensures
    c.parts.ensures.fits c.requires (g.met.I.LazyPlans.fair c.args.engine c.requires.serves.holds) in
    let one : 0 < 1 = omega arith in
    let gave = limit_gave e.system e.mode e.most e.pends e.lawful e.last task TopK None 1 0 c.new-plans.result c.next.new.self c.in-Some-Ok.field-0 c.in-Some-Ok.plan c.in-Some-Ok.field-0-is stands one c.in-Some-Ok.ensures.steps in
    let fits = gave_listable task TopK None (e.pends c.new-plans.result.inner) (e.pends c.next.new.self.inner) [] c.in-Some-Ok.plan (omega arith) given gave in
    let cost = fits.cost in
    let same = c.plan_cost.ensures in
    least_given task c.parts.ensures.fits (e.pends c.new-plans.result.inner) given (e.pends c.next.new.self.inner) c.in-Some-Ok.plan c.plan_cost.result gave same (omega (arith, cost, same))

pub returns-in-Some-Err-CostRange : goal.returns-in-Some-Err-CostRange
returns-in-Some-Err-CostRange g c =
    let e = g.I.LazyPlans in
    let task = c.args.task.now in
    let stands = stands_first e.system e.mode e.most e.pends e.lawful e.last task TopK None 1 c.args.engine c.new-plans.result c.new-plans.ensures c.requires.serves in
    let given = given_first e.system e.mode e.most e.pends e.lawful e.last task TopK None 1 c.args.engine c.new-plans.result c.new-plans.ensures
    c.parts.ensures.fits c.requires (g.met.I.LazyPlans.fair c.args.engine c.requires.serves.holds) in
    let one : 0 < 1 = omega arith in
    dear_given task c.parts.ensures.fits (e.pends c.new-plans.result.inner) given
    (limit_range e.system e.mode e.most e.pends e.lawful e.last task TopK None 1 0 c.new-plans.result c.next.new.self c.in-Some-Err-CostRange.field-0 c.in-Some-Err-CostRange.field-0-0 c.in-Some-Err-CostRange.field-0-is c.in-Some-Err-CostRange.field-0-0-is stands one c.in-Some-Err-CostRange.ensures.steps)

pub returns : goal.returns
returns g c =
    let e = g.I.LazyPlans in
    let task = c.args.task.now in
    let stands = stands_first e.system e.mode e.most e.pends e.lawful e.last task TopK None 1 c.args.engine c.new-plans.result c.new-plans.ensures c.requires.serves in
    let given = given_first e.system e.mode e.most e.pends e.lawful e.last task TopK None 1 c.args.engine c.new-plans.result c.new-plans.ensures
    c.parts.ensures.fits c.requires (g.met.I.LazyPlans.fair c.args.engine c.requires.serves.holds) in
    let one : 0 < 1 = omega arith in
    never_given task c.parts.ensures.fits (e.pends c.new-plans.result.inner) given
    (limit_none e.system e.mode e.most e.pends e.lawful e.last task TopK None 1 0 c.new-plans.result c.next.new.self stands one c.in-None.ensures.steps)
