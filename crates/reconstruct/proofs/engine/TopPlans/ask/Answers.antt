use Rattle.std.proofs.Common.{ℕ, Option, Ok, subst}
use Rattle.symk_task.specs.declared.parts.Mode.TheVariants.{TopK}
use Rattle.lazy_plans.specs.Law.{Turned}
use Rattle.lazy_plans.proofs.Shells.{none_held}
use Rattle.reconstruct.specs.Working.{OwedBy}
use Rattle.reconstruct.proofs.Asks.{stopped, few_tidied, handed_out, turns_of}
use Rattle.reconstruct.proofs.engine.TopPlans.ask.Goals as goal

pub hand_out-requires-clause-free : goal.hand_out-requires-clause-free
hand_out-requires-clause-free g c =
    let me = c.args.self.now in
    none_held (g.S.Space.view me.space).system TopK me.shell.held (rw c.requires.goes_on at c.requires.engine.shell.holds)

pub returns-in-Err-clause-answers : goal.returns-in-Err-clause-answers
returns-in-Err-clause-answers g c =
    let me = c.args.self.now in
    let e = c.requires.engine in
    let none = none_held (g.S.Space.view me.space).system TopK me.shell.held (rw c.requires.goes_on at e.shell.holds) in
    let r = c.give.ensures in
    rw c.stop.ensures.answer (stopped me.shell e.ready r.trades r.working (rw c.most.ensures at r.range) none c.stop.new.self c.in-Err.stop
    (rw c.most.ensures at c.in-Err.ensures.turned) c.stop.ensures.hands)

pub returns-in-Ok-clause-answers : goal.returns-in-Ok-clause-answers
returns-in-Ok-clause-answers g c =
    let me = c.args.self.now in
    let e = c.requires.engine in
    let none = none_held (g.S.Space.view me.space).system TopK me.shell.held (rw c.requires.goes_on at e.shell.holds) in
    let r = c.give.ensures in
    let v = g.S.Space.view me.space in
    let w = g.S.Space.view c.give.new.space in
    let turned = subst (λ (most : Option ℕ). Turned v.system TopK most (OwedBy v me.both me.agenda)
    (OwedBy w c.give.new.both c.give.new.agenda) (Ok c.in-Ok.found)) c.most.ensures c.in-Ok.ensures.turned in
    rw c.hand_out.ensures.answer (handed_out me.shell e.ready r.trades r.working (rw c.most.ensures at r.range) none c.tidy.ensures.stays
    c.hand_out.new.self c.in-Ok.found c.is_ok-tidied.result turned c.hand_out.ensures.hands (few_tidied (g.S.Space.needs c.give.new.space)
    (g.S.Space.needs c.tidy.new.self) w (g.S.Space.view c.tidy.new.self) c.tidy.result c.is_ok-tidied.result c.is_ok-tidied.ensures.value
    c.tidy.ensures.ok))

pub returns-in-Ok-clause-steps : goal.returns-in-Ok-clause-steps
returns-in-Ok-clause-steps g c = rw c.hand_out.ensures.answer (turns_of c.args.steps.now c.give.new.steps c.in-Ok.found
    c.is_ok-tidied.result c.in-Ok.ensures.steps)
