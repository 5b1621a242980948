use Rattle.std.proofs.Common.{◌++◌, refl}
use Rattle.reconstruct.proofs.Sets.{in_valid}
use Rattle.reconstruct.proofs.Expanding.{joined, joined_err}
use Rattle.reconstruct.proofs.expand.expand.Goals as goal

pub give_back_children-requires-clause-valid : goal.give_back_children-requires-clause-valid
give_back_children-requires-clause-valid g c = λ a h. in_valid (g.S.Space.view c.gather.new.space)
    (c.gather.new.children.level.items ++ c.gather.new.children.falling.items) a c.gather.ensures.makes.each h

pub returns-in-Ok-clause-ok : goal.returns-in-Ok-clause-ok
returns-in-Ok-clause-ok g c =
    let level = c.gather.new.children.level.items in
    let falling = c.gather.new.children.falling.items in
    joined (λ es. es.items) (g.S.Space.view c.join.new.space) c.args.front.now c.args.back.now c.args.entry.now (level ++ falling) c.join.result
    (c.gather.ensures.makes, (level, falling, refl, c.in-Ok.ensures.ok)) c.join.ensures.ok c.join.ensures.stays

pub returns-in-Ok-clause-err : goal.returns-in-Ok-clause-err
returns-in-Ok-clause-err g c =
    let view = g.S.Space.view in
    joined_err (view c.args.space.now) (view c.gather.new.space) (view c.join.new.space)
    (c.gather.new.children.level.items ++ c.gather.new.children.falling.items) c.join.result
    c.gather.ensures.makes c.join.ensures.back
