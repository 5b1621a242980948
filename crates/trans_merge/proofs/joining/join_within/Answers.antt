use Rattle.std.proofs.Common.{◌∙◌, List, sym, subst, true≢false}
use Rattle.bdd_table.specs.declared.node.Node.{Node}
use Rattle.trans_merge.specs.Size.{HasAtMost}
use Rattle.trans_merge.proofs.joining.join_within.Goals as goal

pub returns-else-branch-clause-large : goal.returns-else-branch-clause-large
returns-else-branch-clause-large c = (
  c.in_ok-joined.joined,
  c.in_ok-joined.ensures.joined,
  (λ few. true≢false (sym (c.in_ok-is_within.ensures.1 (subst
      (λ (nodes : List Node). HasAtMost nodes c.in_ok-joined.joined.root c.args.bound) (sym c.table.ensures.same)
      few)) ∙ c.if-branch.false)),
)
