use Rattle.std.proofs.Common.{◌∙◌}
use Rattle.bdd_ops.proofs.Doubled.{new_have, twice_have}
use Rattle.bdd_ops.proofs.recent.twice.Goals as goal

pub returns-then-is_empty : goal.returns-then-is_empty
returns-then-is_empty g c = new_have c.args.empty c.args.slots.now c.new-more.result.items c.resize.new.self.items _ _
    c.new-more.ensures.items c.in_ok-resize.ensures.items

pub returns : goal.returns
returns g c = twice_have c.args.empty c.args.slots.now c.reserve_exact.new.self.items
    c.extend_from_slice.new.self.items c.extend_from_slice-2.new.self.items
    (c.in_ok-reserve_exact.ensures.items ∙ c.new-more.ensures.items) c.in_ok-extend_from_slice.ensures.items
    c.in_ok-extend_from_slice-2.ensures.items
