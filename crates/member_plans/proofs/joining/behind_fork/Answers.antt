use Rattle.std.proofs.Common.{◌≡◌, ℕ, ◌++◌, reverse, sym, subst, ◌∙◌, arith}
use Rattle.prefix_tree.specs.Tree.{path_at}
use Rattle.member_plans.proofs.joining.behind_fork.Goals as goal

pub up-preserved : goal.up-preserved
up-preserved c = record {
  node = c.up.invariant.node;
  other = omega (arith, c.in_ok-there.ensures.nearer, c.up.invariant.other);
  first = c.up.invariant.first;
  second = c.up.invariant.second ∙ c.in_ok-there.ensures.back;
}

pub returns : goal.returns
returns c = record {
  front = path_at c.args.tree.now c.up.at;
  first = c.up.invariant.first;
  second = subst (λ (i : ℕ). path_at c.args.tree.now c.args.other ≡ path_at c.args.tree.now i ++ reverse
      c.up.two.items) (sym c.up-test.false) c.up.invariant.second;
}
