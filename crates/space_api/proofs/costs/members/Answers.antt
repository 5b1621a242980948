use Rattle.std.proofs.lemmas.Map.Keys.{IsStrictlyIncreasing-from_sorted}
use Rattle.space_api.proofs.costs.members.Goals as goal

pub returns-clause-rising : goal.returns-clause-rising
returns-clause-rising c = IsStrictlyIncreasing-from_sorted c.args.set.now.keys c.iter.ensures.ordered
