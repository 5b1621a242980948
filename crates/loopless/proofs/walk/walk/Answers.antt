use Rattle.std.proofs.Common.{◌∙◌, subst}
use Rattle.task_system.specs.System.{System}
use Rattle.lazy_plans.proofs.Given.{stays_trans}
use Rattle.lazy_plans.specs.Queue.{Pending}
use Rattle.symk_task.specs.declared.parts.Mode.TheVariants.{Loopless}
use Rattle.loopless.specs.Front.{prefixes_of}
use Rattle.loopless.specs.Turned.{TurnOf}
use Rattle.loopless.specs.declared.walk.Turn.TheVariants.{Goes, Gives, Ends, OutOfRange}
use Rattle.lazy_plans.proofs.Owed.{law_gives, law_ends, law_out, law_stops}
use Rattle.loopless.proofs.walk.walk.Goals as goal

pub returns-in-Err-clause-law : goal.returns-in-Err-clause-law
returns-in-Err-clause-law g c =
    let y = (g.S.Space.view c.args.space.now).system in
    law_stops y Loopless c.args.most (prefixes_of c.args.front.now) (prefixes_of c.turns.front) (prefixes_of c.take_turn.new.front)
    c.turns.invariant.stays c.in-Err.ensures.err

pub returns-in-Gives-clause-law : goal.returns-in-Gives-clause-law
returns-in-Gives-clause-law g c =
    let y = (g.S.Space.view c.args.space.now).system in
    let t = subst (λ (x : System). TurnOf x c.args.most c.turns.front c.take_turn.new.front (Gives c.in-Gives.plan))
    c.turns.invariant.system (rw c.in-Gives.is at c.in-Ok.ensures.ok) in
    law_gives y Loopless c.args.most (prefixes_of c.args.front.now) (prefixes_of c.turns.front) (prefixes_of c.take_turn.new.front)
    c.turns.invariant.stays c.in-Gives.plan t.1

pub returns-in-Ends-clause-law : goal.returns-in-Ends-clause-law
returns-in-Ends-clause-law g c =
    let y = (g.S.Space.view c.args.space.now).system in
    let t = subst (λ (x : System). TurnOf x c.args.most c.turns.front c.take_turn.new.front Ends)
    c.turns.invariant.system (rw c.in-Ends.is at c.in-Ok.ensures.ok) in
    law_ends y Loopless c.args.most (prefixes_of c.args.front.now) (prefixes_of c.turns.front) (prefixes_of c.take_turn.new.front)
    c.turns.invariant.stays t

pub returns-in-OutOfRange-clause-law : goal.returns-in-OutOfRange-clause-law
returns-in-OutOfRange-clause-law g c =
    let y = (g.S.Space.view c.args.space.now).system in
    let t = subst (λ (x : System). TurnOf x c.args.most c.turns.front c.take_turn.new.front OutOfRange)
    c.turns.invariant.system (rw c.in-OutOfRange.is at c.in-Ok.ensures.ok) in
    law_out y Loopless c.args.most (prefixes_of c.args.front.now) (prefixes_of c.turns.front) (prefixes_of c.take_turn.new.front)
    c.turns.invariant.stays t

pub turns-preserved : goal.turns-preserved
turns-preserved g c =
    let y = (g.S.Space.view c.args.space.now).system in
    let t = subst (λ (x : System). TurnOf x c.args.most c.turns.front c.take_turn.new.front Goes)
    c.turns.invariant.system (rw c.in-Goes.is at c.in-Ok.ensures.ok) in
    record {
      system = c.take_turn.ensures.system ∙ c.turns.invariant.system;
      ready = c.take_turn.ensures.ready;
      right = t.0;
      stays = stays_trans (Pending y Loopless (prefixes_of c.args.front.now)) (Pending y Loopless (prefixes_of c.turns.front))
          (Pending y Loopless (prefixes_of c.take_turn.new.front)) c.turns.invariant.stays t.1;
    }
