use Rattle.std.proofs.Common.{◌≡◌}
use Rattle.explicit_space.proofs.Gathering.{one_more, has_those}
use Rattle.explicit_space.proofs.members.single.Goals as goal

pub returns : goal.returns
returns c = has_those c.new-set.result c.insert.new.self (λ s. s ≡ c.args.state) c.new-set.ensures.empty (one_more c.new-set.result c.insert.new.self c.args.state c.in_ok-insert.ensures.updates.0)
