use Rattle.std.proofs.Common.{arith}
use Rattle.bdd_table.specs.Diagram.{means}
use Rattle.transitions.specs.Relations.{HoldsForState}
use Rattle.cert_check.proofs.Answering.{match_true, match_false, past_operators}
use Rattle.cert_check.proofs.Carrying.{watched_more, leaves_first, leaves_set, leaves_roots}
use Rattle.cert_check.proofs.judging.first_leaving.Goals as goal

pub returns-then-branch-clause-says : goal.returns-then-branch-clause-says
returns-then-branch-clause-says c =
    leaves_first c.args.task.now c.args.order.now c.parts.ensures.fits c.args.ops.now c.args.members.now
    c.operators.ops c.operators.derived c.operators.members c.operators.op c.operators.invariant.watched
    (match_true c.in_ok-leads_out.field-0 _ _ c.if-branch.true c.in_ok-leads_out.ensures.says)

pub operators-preserved : goal.operators-preserved
operators-preserved c = record {
  reduced = c.make_room.ensures.reduced;
  watched = watched_more c.args.task.now c.args.order.now c.parts.ensures.fits c.args.ops.now c.args.members.now
      c.operators.ops c.operators.derived c.operators.members c.operators.op c.operators.invariant.watched
      c.leads_out.new.ops c.in_ok-leads_out.ensures.kept (match_false c.in_ok-leads_out.field-0 _ _ c.if-branch.false c.in_ok-leads_out.ensures.says)
      c.make_room.new.ops c.make_room.new.derived c.make_room.new.members c.in_ok-last.ensures.carried;
}

pub returns-clause-says : goal.returns-clause-says
returns-clause-says c = past_operators c.args.task.now (HoldsForState c.args.order.now
    (means c.args.ops.now c.args.members.now)) c.operators.op
    (let e = c.operators-op-end.ensures in let h = c.operators-test.false in omega (arith, e, h))
    c.operators.invariant.watched.closed

pub returns-then-branch-clause-set : goal.returns-then-branch-clause-set
returns-then-branch-clause-set c =
    leaves_set c.args.task.now c.args.order.now c.parts.ensures.fits c.args.ops.now c.args.members.now c.operators.ops
    c.operators.derived c.operators.members c.operators.op c.operators.invariant.watched
    c.leads_out.new.ops c.in_ok-leads_out.ensures.kept

pub returns-then-branch-clause-roots : goal.returns-then-branch-clause-roots
returns-then-branch-clause-roots c =
    leaves_roots c.args.task.now c.args.order.now c.parts.ensures.fits c.args.ops.now c.args.members.now
    c.operators.ops c.operators.derived c.operators.members c.operators.op c.operators.invariant.watched
    c.leads_out.new.ops c.in_ok-leads_out.ensures.kept
