use Rattle.bdd_table.specs.Diagram.{means}
use Rattle.bdd_table.proofs.Adding.{ok_by}
use Rattle.var_order.proofs.Laying.{state_of}
use Rattle.transitions.specs.Relations.{HoldsForState}
use Rattle.axiom_layers.proofs.Raised.{roots_kept}
use Rattle.cert_check.proofs.Judged.{begins_alike, judged_back}
use Rattle.cert_check.proofs.Answering.{begins_has, begins_not}
use Rattle.cert_check.proofs.judging.judge.Goals as goal

pub has-requires-clause-state : goal.has-requires-clause-state
has-requires-clause-state c = state_of c.args.task.now c.args.order.now c.in_ok-start.start c.requires.order c.in_ok-start.ensures.state

pub returns-then-not-has : goal.returns-then-not-has
returns-then-not-has c = begins_not c.args.task.now c.args.order.now c.parts.ensures.fits c.requires.order
    c.args.ops.now c.args.set c.in_ok-start.start c.has.result c.in_ok-start.ensures c.requires.states
    (c.has.ensures.states c.requires.states) c.if-not-has.true

pub judge_members-requires-clause-roots : goal.judge_members-requires-clause-roots
judge_members-requires-clause-roots c = roots_kept c.args.task.now c.args.order.now c.args.ops.now
    c.members_of.new.ops c.args.derived.now c.in_ok-members.ensures.kept c.requires.roots

pub judge_members-requires-clause-begins : goal.judge_members-requires-clause-begins
judge_members-requires-clause-begins c =
    begins_alike c.args.task.now c.parts.ensures.fits (HoldsForState c.args.order.now (means c.args.ops.now c.args.set))
    (HoldsForState c.args.order.now (means c.members_of.new.ops c.in_ok-members.members))
    c.in_ok-members.ensures.same
    (begins_has c.args.task.now c.args.order.now c.parts.ensures.fits c.requires.order c.args.ops.now c.args.set
    c.in_ok-start.start c.has.result c.in_ok-start.ensures c.requires.states
    (c.has.ensures.states c.requires.states) c.if-not-has.false)

pub returns : goal.returns
returns c =
    ok_by c.judge_members.result _ _ c.judge_members.ensures
    (judged_back c.args.task.now c.parts.ensures.fits (HoldsForState c.args.order.now (means c.args.ops.now c.args.set))
    (HoldsForState c.args.order.now (means c.members_of.new.ops c.in_ok-members.members))
    c.in_ok-members.ensures.same)
