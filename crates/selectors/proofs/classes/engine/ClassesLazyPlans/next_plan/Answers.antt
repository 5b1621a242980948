use Rattle.symk_task.specs.declared.parts.Mode.TheVariants.{Unordered}
use Rattle.lazy_plans.proofs.Given.{ended_by}
use Rattle.selectors.proofs.classes.engine.ClassesLazyPlans.next_plan.Goals as goal

pub returns-clause-lawful : goal.returns-clause-lawful
returns-clause-lawful g c =
    let e = c.draw-given.ensures in
    rw (e.system, e.most, c.of-self.ensures) (record {
      lawful = e.lawful;
      keyed = e.seen;
      covers = e.covers;
      ended = ended_by _ Unordered _ _ _ c.draw-given.result e.law;
    })

pub returns-clause-law : goal.returns-clause-law
returns-clause-law g c = rw c.draw-given.ensures.system c.draw-given.ensures.law
