use Rattle.explicit_space.specs.Explicit.{explicit_set_at}
use Rattle.explicit_space.proofs.Asking.{empty_says, member_says}
use Rattle.explicit_space.proofs.explicit.ExplicitSpaceSpace.is_empty.Goals as goal

pub returns-clause-empty : goal.returns-clause-empty
returns-clause-empty c = empty_says (explicit_set_at c.args.self.now.sets c.args.a) c.members.result.now c.members.ensures.set c.is_empty.result c.is_empty.ensures

pub returns-clause-member : goal.returns-clause-member
returns-clause-member c = member_says (explicit_set_at c.args.self.now.sets c.args.a) c.members.result.now c.members.ensures.set c.is_empty.result c.is_empty.ensures c.args.self.now.task c.members.ensures.states
