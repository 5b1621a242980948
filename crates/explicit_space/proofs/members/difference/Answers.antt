use Rattle.std.proofs.Common.{IsTrue, IsFalse}
use Rattle.task_system.specs.System.{State}
use Rattle.explicit_space.specs.Members.{has_explicit_state, IsIf, FromMember}
use Rattle.explicit_space.proofs.Gathering.{so_far_more, so_far_all, grows_if, has_those, has_as, kept_from, not_says}
use Rattle.explicit_space.proofs.members.difference.Goals as goal

pub loop-member-preserved : goal.loop-member-preserved
loop-member-preserved c = record {
  can_next = tt;
  is_finite = tt;
  so_far = so_far_more c.args.a.now c.new-set.result c.loop-member.set c.insert_if.new.set
      (λ (t : State). IsIf (IsFalse (has_explicit_state c.args.b.now t)) t) c.loop-member.member-iterator c.next.new.self c.in-Some.member.now c.loop-member.invariant.so_far c.in-Some.ensures.steps
      (grows_if c.loop-member.set c.insert_if.new.set _ _ c.in-Some.member.now
      (not_says (has_explicit_state c.args.b.now c.in-Some.member.now) c.contains.result c.contains.ensures) c.in_ok-insert_if.ensures);
}

pub returns : goal.returns
returns c =
    let P : State → Type 0 = λ t. IsFalse (has_explicit_state c.args.b.now t) in
    has_as c.loop-member.set (FromMember c.args.a.now (λ (t : State). IsIf (P t) t))
    (λ s. IsTrue (has_explicit_state c.args.a.now s) × P s) (kept_from c.args.a.now P)
    (has_those c.new-set.result c.loop-member.set (FromMember c.args.a.now (λ (t : State). IsIf (P t) t)) c.new-set.ensures.empty
    (so_far_all c.args.a.now c.new-set.result c.loop-member.set (λ (t : State). IsIf (P t) t) c.loop-member.member-iterator c.loop-member.invariant.so_far c.in-None.ensures.steps.0))
