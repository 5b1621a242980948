use Rattle.symk_task.specs.declared.parts.Mode.TheVariants.{Unordered}
use Rattle.lazy_plans.proofs.Given.{ended_by}
use Rattle.selectors.proofs.unordered.engine.UnorderedLazyPlans.next_plan.Goals as goal

pub returns-clause-lawful : goal.returns-clause-lawful
returns-clause-lawful g c =
    let e = c.draw-given.ensures in
    rw (e.system, e.most, c.of-self.ensures) (record {
      lawful = e.lawful;
      topk = e.mode;
      keyed = e.seen;
      holds = e.held;
      ended = ended_by _ Unordered _ _ _ c.draw-given.result e.law;
    })
