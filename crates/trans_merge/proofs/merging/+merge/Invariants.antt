use Rattle.std.proofs.Common.{length}
use Rattle.trans_merge.proofs.merging.+merge.Given as goal

abbrev pub decreases-merge : goal.decreases-merge
decreases-merge l = length l.relations.items
