use Rattle.std.proofs.Common.{◌≡◌, ◌+◌, ◌<◌, ◌++◌, length, reverse}
use Rattle.prefix_tree.specs.Tree.{path_at}
use Rattle.member_plans.proofs.joining.behind_fork.Given as goal

abbrev pub invariant-up : goal.invariant-up
invariant-up l = record {
  node : l.at < length l.tree;
  other : l.there < length l.tree;
  first : path_at l.tree l.node ≡ path_at l.tree l.at ++ reverse l.one.items;
  second : path_at l.tree l.other ≡ path_at l.tree l.there ++ reverse l.two.items;
}

abbrev pub decreases-up : goal.decreases-up
decreases-up l = l.at + l.there
