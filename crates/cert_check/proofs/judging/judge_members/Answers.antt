use Rattle.std.proofs.Common.{sym}
use Rattle.bdd_table.specs.Diagram.{means}
use Rattle.transitions.specs.Relations.{HoldsForState}
use Rattle.cert_check.proofs.Judged.{member_alike, meets_alike, misses_alike}
use Rattle.cert_check.proofs.Answering.{match_true, match_false, match_some, match_none}
use Rattle.cert_check.proofs.judging.judge_members.Goals as goal

pub returns-in-Some : goal.returns-in-Some
returns-in-Some c = (c.requires.begins, match_some c.in_ok-op.field-0 _ _ c.in-Some.op c.in-Some.is c.in_ok-op.ensures.says)

pub returns-then-branch : goal.returns-then-branch
returns-then-branch c = (
  c.requires.begins,
  match_none c.in_ok-op.field-0 _ _ c.in-None.is c.in_ok-op.ensures.says,
  meets_alike c.args.task.now c.parts.ensures.fits (HoldsForState c.args.order.now
      (means c.first_leaving.new.ops c.first_leaving.new.members))
      (HoldsForState c.args.order.now (means c.args.ops.now c.args.members))
      (λ s state. member_alike c.args.order.now (means c.first_leaving.new.ops c.first_leaving.new.members)
      (means c.args.ops.now c.args.members) s (λ b. sym (c.in_ok-op.ensures.same b)))
      (match_true c.in_ok-meets_goal-in-None.field-0 _ _ c.if-branch.true c.in_ok-meets_goal-in-None.ensures.says),
)

pub returns-else-branch : goal.returns-else-branch
returns-else-branch c = record {
  initial = c.requires.begins;
  closed = match_none c.in_ok-op.field-0 _ _ c.in-None.is c.in_ok-op.ensures.says;
  goal = misses_alike c.args.task.now c.parts.ensures.fits (HoldsForState c.args.order.now
      (means c.first_leaving.new.ops c.first_leaving.new.members))
      (HoldsForState c.args.order.now (means c.args.ops.now c.args.members))
      (λ s state. member_alike c.args.order.now (means c.first_leaving.new.ops c.first_leaving.new.members)
      (means c.args.ops.now c.args.members) s (λ b. sym (c.in_ok-op.ensures.same b)))
      (match_false c.in_ok-meets_goal-in-None.field-0 _ _ c.if-branch.false c.in_ok-meets_goal-in-None.ensures.says);
}
