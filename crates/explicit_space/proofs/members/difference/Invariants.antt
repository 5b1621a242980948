use Rattle.std.proofs.Common.{IsFalse}
use Rattle.task_system.specs.System.{State}
use Rattle.explicit_space.specs.Members.{has_explicit_state, IsIf}
use Rattle.explicit_space.proofs.Gathering.{SoFar}
use Rattle.explicit_space.proofs.members.difference.Given as goal

abbrev pub invariant-loop-member : goal.invariant-loop-member
invariant-loop-member l = record {
  can_next : (goal.iterator-loop-member).can_next l.member-iterator;
  is_finite : (goal.iterator-loop-member).is_finite l.member-iterator;
  so_far : SoFar l.a l.initial.set l.set (λ (t : State). IsIf (IsFalse (has_explicit_state l.b t)) t) l.member-iterator;
}
