use Rattle.std.proofs.Common.{length, sym, ◌∙◌}
use Rattle.plan_out.specs.Reading.{spaced_in}
use Rattle.plan_out.proofs.Spaced.{operator_shorter, begun, goes_on, breaks_off, all_read, is_some, is_none}
use Rattle.plan_out.proofs.line.spaced_in.Goals as goal

pub loop-rest-smaller : goal.loop-rest-smaller
loop-rest-smaller c = operator_shorter c.loop-rest.rest.now c.in-Some.operator c.in-Some.after.now c.in-Some.ensures

pub loop-rest-init : goal.loop-rest-init
loop-rest-init c = rw (c.of-plan.ensures, c.new.ensures.items) (begun c.args.spaced.now)

pub loop-rest-preserved : goal.loop-rest-preserved
loop-rest-preserved c =
    rw c.in_ok-push-in-Some.ensures.ok (goes_on (spaced_in (length c.args.spaced.now) c.args.spaced.now)
    c.loop-rest.plan c.loop-rest.rest.now c.in-Some.operator c.in-Some.after.now
    (is_some (length c.loop-rest.rest.now) (sym c.is_empty.ensures ∙ c.loop-rest-test.true)) c.in-Some.ensures c.loop-rest.invariant)

pub returns-in-None : goal.returns-in-None
returns-in-None c = breaks_off (spaced_in (length c.args.spaced.now) c.args.spaced.now) c.loop-rest.plan
    c.loop-rest.rest.now (is_some (length c.loop-rest.rest.now) (sym c.is_empty.ensures ∙ c.loop-rest-test.true))
    c.in-None.ensures c.loop-rest.invariant

pub returns : goal.returns
returns c = all_read (spaced_in (length c.args.spaced.now) c.args.spaced.now) c.loop-rest.plan c.loop-rest.rest.now
    (is_none (length c.loop-rest.rest.now) (sym c.is_empty.ensures ∙ c.loop-rest-test.false)) c.loop-rest.invariant
