use Rattle.std.proofs.Common.{sym, ◌∙◌, ◌≡◌, Some}
use Rattle.cost_layers.specs.Layers.{rings_at, union_at}
use Rattle.cost_layers.proofs.Holding.{holds_kept}
use Rattle.reconstruct.proofs.Opens.{cross_opened}
use Rattle.reconstruct.proofs.opening.open_cross.Goals as goal

pub returns-in-Ok-clause-ok : goal.returns-in-Ok-clause-ok
returns-in-Ok-clause-ok g c =
    let is_front : union_at c.args.front.now c.args.x ≡ Some c.in-Some-Some.before = sym c.layer.ensures ∙ c.in-Some-Some.is-0 in
    let is_back : union_at c.args.back.now c.args.y ≡ Some c.in-Some-Some.after = sym c.layer-2.ensures ∙ c.in-Some-Some.is-1 in
    cross_opened c.args.back.now c.requires.front c.requires.cut.0 is_front is_back c.pre_op.ensures.kept
    c.in_ok-set-in-Some-Some.ensures.ok c.cross_from.ensures.stays c.in-Ok.ensures.ok

pub cross_from-requires-clause-front : goal.cross_from-requires-clause-front
cross_from-requires-clause-front g c = holds_kept (g.S.Space.view c.args.space.now) (g.S.Space.view c.pre_op.new.self)
    (rings_at c.args.front.now) (union_at c.args.front.now) c.pre_op.ensures.kept c.requires.front
