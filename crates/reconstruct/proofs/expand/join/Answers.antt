use Rattle.std.proofs.Common.{◌++◌}
use Rattle.reconstruct.proofs.Sets.{in_valid, made_back}
use Rattle.reconstruct.proofs.expand.join.Goals as goal

pub give_back_children-requires-clause-valid : goal.give_back_children-requires-clause-valid
give_back_children-requires-clause-valid g c =
    let view = g.S.Space.view in
    let m = c.requires.1 in
    rw (c.in-Err.ensures.items, c.in-Err.ensures.other_items)
    (λ a h. in_valid (view c.args.space.now) (c.args.children.level.items ++ c.args.children.falling.items) a
    m.each h)

pub returns-in-Err-clause-back : goal.returns-in-Err-clause-back
returns-in-Err-clause-back g c u m =
    let view = g.S.Space.view in
    let t = rw (c.in-Err.ensures.items, c.in-Err.ensures.other_items) at c.give_back_children.ensures in
    made_back u (view c.args.space.now) (view c.give_back_children.new.space) (c.args.children.level.items ++ c.args.children.falling.items) m t
