use Rattle.std.proofs.Common.{IsTrue, true}
use Rattle.task_system.specs.System.{State}
use Rattle.explicit_space.specs.Members.{has_explicit_state, IsIf, FromMember}
use Rattle.explicit_space.proofs.Gathering.{so_far_more, so_far_all, grows_as, all_from}
use Rattle.explicit_space.proofs.members.insert_all.Goals as goal

pub loop-member-preserved : goal.loop-member-preserved
loop-member-preserved c = record {
  can_next = tt;
  is_finite = tt;
  so_far = so_far_more c.args.members.now c.args.set.now c.loop-member.set c.insert_if.new.set (λ (t : State). IsIf (IsTrue true) t) c.loop-member.member-iterator c.next.new.self c.in-Some.member.now c.loop-member.invariant.so_far c.in-Some.ensures.steps c.in_ok-insert_if.ensures;
}

pub returns : goal.returns
returns c =
    grows_as c.args.set.now c.loop-member.set (FromMember c.args.members.now (λ (t : State). IsIf (IsTrue true) t))
    (λ s. IsTrue (has_explicit_state c.args.members.now s)) (all_from c.args.members.now)
    (so_far_all c.args.members.now c.args.set.now c.loop-member.set (λ (t : State). IsIf (IsTrue true) t) c.loop-member.member-iterator c.loop-member.invariant.so_far c.in-None.ensures.steps.0)
