use Rattle.cost_layers.specs.Layers.{rings_at, union_at}
use Rattle.cost_layers.proofs.Holding.{holds_kept}
use Rattle.cost_search.specs.Search.{layers_of}
use Rattle.bidirectional.specs.Sides.{rear}
use Rattle.bidirectional.proofs.Known.{rear_held}
use Rattle.search_tests.proofs.both.refusals.layers_stand.Goals as goal

pub alternate-requires-2 : goal.alternate-requires-2
alternate-requires-2 g c =
    let view = g.S.Space.view in
    let l = layers_of (rear c.args.both.now.sides) in
    rw c.backward_layers.ensures.value (holds_kept (view c.args.space.now) (view c.alternate.new.space) (rings_at l)
    (union_at l) c.alternate.ensures.kept (rear_held
    (view c.args.space.now) c.args.both.now.sides c.requires.sides))
