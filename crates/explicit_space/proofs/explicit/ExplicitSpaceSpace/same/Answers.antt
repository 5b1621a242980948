use Rattle.explicit_space.specs.Explicit.{explicit_set_at}
use Rattle.explicit_space.proofs.Asking.{part_says, same_then, same_else}
use Rattle.explicit_space.proofs.explicit.ExplicitSpaceSpace.same.Goals as goal

pub returns-then-is_subset : goal.returns-then-is_subset
returns-then-is_subset c =
    let a = explicit_set_at c.args.self.now.sets c.args.a in
    let b = explicit_set_at c.args.self.now.sets c.args.b in
    same_then a b c.is_subset.result c.is_subset-then-is_subset.result c.if-is_subset.true
    (part_says a b c.members.result.now c.members-2.result.now c.is_subset.result c.members.ensures.set c.members-2.ensures.set c.is_subset.ensures)
    (part_says b a c.members-then-is_subset.result.now c.members-then-is_subset-2.result.now c.is_subset-then-is_subset.result c.members-then-is_subset.ensures.set c.members-then-is_subset-2.ensures.set c.is_subset-then-is_subset.ensures)

pub returns-else-is_subset : goal.returns-else-is_subset
returns-else-is_subset c =
    let a = explicit_set_at c.args.self.now.sets c.args.a in
    let b = explicit_set_at c.args.self.now.sets c.args.b in
    same_else a b c.is_subset.result c.if-is_subset.false (part_says a b c.members.result.now c.members-2.result.now c.is_subset.result c.members.ensures.set c.members-2.ensures.set c.is_subset.ensures)
