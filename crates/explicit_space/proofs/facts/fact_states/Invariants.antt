use Rattle.symk_task.specs.Steps.{Holds}
use Rattle.task_system.specs.System.{State}
use Rattle.explicit_space.specs.Members.{IsIf}
use Rattle.explicit_space.proofs.Gathering.{SoFar}
use Rattle.explicit_space.proofs.facts.fact_states.Given as goal

abbrev pub invariant-loop-member : goal.invariant-loop-member
invariant-loop-member l = record {
  can_next : (goal.iterator-loop-member).can_next l.member-iterator;
  is_finite : (goal.iterator-loop-member).is_finite l.member-iterator;
  so_far : SoFar l.members l.initial.set l.set (λ (t : State). IsIf (Holds l.task t l.fact) t) l.member-iterator;
}
