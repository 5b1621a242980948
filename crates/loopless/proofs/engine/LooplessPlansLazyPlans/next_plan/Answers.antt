use Rattle.std.proofs.Common.{sym, ◌∙◌}
use Rattle.symk_task.specs.declared.parts.Mode.TheVariants.{Loopless}
use Rattle.lazy_plans.proofs.Shells.{answers_again}
use Rattle.loopless.specs.Engine.{loopless_system, QueuesLoopless, HasLooplessRoom}
use Rattle.loopless.proofs.engine.LooplessPlansLazyPlans.next_plan.Goals as goal

pub returns-in-Some-clause-law : goal.returns-in-Some-clause-law
returns-in-Some-clause-law g c =
    let view = g.S.Space.view in
    let me = c.args.self.now in
    (answers_again (loopless_system view me) Loopless (QueuesLoopless view me) (HasLooplessRoom view me) me.shell c.requires.shell c.answer.result
    c.in-Some.ending (sym c.ended.ensures ∙ c.in-Some.is) c.answer.ensures).law

pub returns-in-Some-clause-tidy : goal.returns-in-Some-clause-tidy
returns-in-Some-clause-tidy g c =
    let view = g.S.Space.view in
    let me = c.args.self.now in
    (answers_again (loopless_system view me) Loopless (QueuesLoopless view me) (HasLooplessRoom view me) me.shell c.requires.shell c.answer.result
    c.in-Some.ending (sym c.ended.ensures ∙ c.in-Some.is) c.answer.ensures).room
