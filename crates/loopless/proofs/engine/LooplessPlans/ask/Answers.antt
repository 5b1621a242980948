use Rattle.std.proofs.Common.{sym, ◌∙◌}
use Rattle.symk_task.specs.declared.parts.Mode.TheVariants.{Loopless}
use Rattle.lazy_plans.specs.Shell.{shell_held}
use Rattle.lazy_plans.proofs.Shells.{none_held, on_done}
use Rattle.loopless.specs.Engine.{loopless_system}
use Rattle.loopless.proofs.Asks.{ready_stays, stopped, handed}
use Rattle.loopless.proofs.engine.LooplessPlans.ask.Goals as goal

pub hand_out-requires-clause-free : goal.hand_out-requires-clause-free
hand_out-requires-clause-free g c =
    let me = c.args.self.now in
    none_held (loopless_system g.S.Space.view me) Loopless (shell_held me.shell) (rw c.requires.goes_on at c.requires.engine.shell.holds)

pub returns-in-Err : goal.returns-in-Err
returns-in-Err g c =
    let view = g.S.Space.view in
    let me = c.args.self.now in
    let none = none_held (loopless_system view me) Loopless (shell_held me.shell) (rw c.requires.goes_on at c.requires.engine.shell.holds) in
    let r = c.in-Err.ensures in
    rw c.stop.ensures.answer (stopped view me _ c.most.result none r.system r.ready c.most.ensures r.right
    c.in-Err.stop r.law c.stop.ensures.hands)

pub returns-in-Ok : goal.returns-in-Ok
returns-in-Ok g c =
    let view = g.S.Space.view in
    let me = c.args.self.now in
    let none = none_held (loopless_system view me) Loopless (shell_held me.shell) (rw c.requires.goes_on at c.requires.engine.shell.holds) in
    let r = c.in-Ok.ensures in
    let s = c.tidy.ensures.stays in
    let ready = ready_stays (view c.walk.new.space) (view c.tidy.new.self) c.walk.new.backward c.walk.new.front s r.ready in
    rw c.hand_out.ensures.answer (handed view me _ c.most.result none (s.kept.system ∙ r.system) ready c.most.ensures r.right
    c.in-Ok.found c.is_ok.result r.law c.hand_out.ensures.hands
    (λ on. (on_done c.tidy.result c.tidy.ensures.ok (sym c.is_ok.ensures.value ∙ on)).few))
