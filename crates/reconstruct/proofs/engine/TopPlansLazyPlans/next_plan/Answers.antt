use Rattle.std.proofs.Common.{sym, ◌∙◌}
use Rattle.symk_task.specs.declared.parts.Mode.TheVariants.{TopK}
use Rattle.lazy_plans.proofs.Given.{again}
use Rattle.reconstruct.specs.Engine.{cut_system, most_of, Pends}
use Rattle.reconstruct.proofs.Asks.{turns_again}
use Rattle.reconstruct.proofs.engine.TopPlansLazyPlans.next_plan.Goals as goal

pub returns-in-Some-clause-law : goal.returns-in-Some-clause-law
returns-in-Some-clause-law g c =
    let me = c.args.self.now in
    again (cut_system g.S.Space.view me) TopK (most_of me) (Pends g.S.Space.view me) c.answer.result c.in-Some.ending c.answer.ensures
    (rw (sym c.ended.ensures ∙ c.in-Some.is) at c.requires.shell.said)

pub returns-in-Some-clause-steps : goal.returns-in-Some-clause-steps
returns-in-Some-clause-steps g c = turns_again c.args.steps.now c.answer.result c.in-Some.ending c.answer.ensures
