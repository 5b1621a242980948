use Rattle.std.proofs.Common.{inl, sym, ◌∙◌}
use Rattle.trans_merge.proofs.members.add_of_cost.Goals as goal

pub returns-in_ok-push : goal.returns-in_ok-push
returns-in_ok-push c = inl (sym c.cost.ensures ∙ c.if-cost.true, (c.in_ok-copied.field-0, c.in_ok-copied.ensures, c.in_ok-push.ensures.items))
