use Rattle.std.proofs.Common.{inl, inr}
use Rattle.mutex_use.proofs.balance.is_balanced.Goals as goal

pub returns-then-add_none : goal.returns-then-add_none
returns-then-add_none c t = inl (c.add_none.ensures.0 t)

pub returns-then-take_one : goal.returns-then-take_one
returns-then-take_one c t = inr (c.take_one.ensures c.if-take_one.true, c.add_one.ensures.0 t)
