use Rattle.std.proofs.Common.{◌≡◌, ◌++◌, IsTrue, List}
use Rattle.task_system.specs.System.{State, Listed}
use Rattle.explicit_space.specs.Members.{has_explicit_state}
use Rattle.explicit_space.proofs.members.is_subset.Given as goal

abbrev pub invariant-loop-member : goal.invariant-loop-member
invariant-loop-member l = record {
  can_next : (goal.iterator-loop-member).can_next l.member-iterator;
  is_finite : (goal.iterator-loop-member).is_finite l.member-iterator;
  so_far : (done : List State) × (l.a.keys ≡ done ++ l.member-iterator) × ((s : State) → Listed done s → IsTrue (has_explicit_state l.b s));
}
