use Rattle.space_api.proofs.Trading.{trades_as}
use Rattle.cost_layers.proofs.PartsBack.{all_parts}
use Rattle.cost_layers.proofs.release.forget_layer.Goals as goal

pub forget_from-requires-clause-parts : goal.forget_from-requires-clause-parts
forget_from-requires-clause-parts g c = λ a h. c.requires.parts a ((all_parts c.args.layer.now.rings.items c.args.layer.now.whole a).0 h)

pub returns : goal.returns
returns g c = trades_as c.forget_from.ensures (all_parts c.args.layer.now.rings.items c.args.layer.now.whole) (λ a. ((λ x. x), (λ x. x)))
