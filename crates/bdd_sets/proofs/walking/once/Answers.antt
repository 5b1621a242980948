use Rattle.std.proofs.Common.{eqb}
use Rattle.std.proofs.lemmas.List.Filters.{dedup_is}
use Rattle.bdd_sets.proofs.Passing.{once_same}
use Rattle.bdd_sets.proofs.walking.once.Goals as goal

pub returns : goal.returns
returns c = once_same c.args.ends.now.items c.sort_unstable.new.self.items c.dedup.new.self.items
    c.sort_unstable.ensures.permutation (dedup_is eqb c.sort_unstable.new.self.items c.dedup.new.self.items
    c.dedup.ensures.filtered)
