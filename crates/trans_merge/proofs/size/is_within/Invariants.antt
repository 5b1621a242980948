use Rattle.std.proofs.Common.{ℕ, List}
use Rattle.trans_merge.proofs.Visiting.{IsCounted, in_keys}
use Rattle.trans_merge.proofs.size.is_within.Given as goal

abbrev pub invariant-nodes : goal.invariant-nodes
invariant-nodes l = (seen : List ℕ) × IsCounted l.table l.root (in_keys l.waiting.keys) l.counter seen
