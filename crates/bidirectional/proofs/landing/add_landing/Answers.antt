use Rattle.std.proofs.Common.{sym, ◌∙◌}
use Rattle.space_api.specs.View.{Has}
use Rattle.cost_layers.specs.Layers.{Stands}
use Rattle.cost_layers.proofs.Seeding.{if_ok_map, joins_none}
use Rattle.bidirectional.specs.Cutting.{LandsBy}
use Rattle.bidirectional.proofs.Landed.{lands_layer, lands_nowhere}
use Rattle.bidirectional.proofs.landing.add_landing.Goals as goal

pub returns-in-Some-layer-clause-ok : goal.returns-in-Some-layer-clause-ok
returns-in-Some-layer-clause-ok g c =
    if_ok_map c.add_from.result
    (λ r j. lands_layer c.args.to c.args.cost c.args.z c.args.w c.requires.layers c.in-Some.x c.in-Some-layer.whole
    c.in-Some.ensures (sym c.layer.ensures ∙ c.in-Some-layer.is) j)
    c.add_from.ensures.ok

pub returns-in-None-clause-ok : goal.returns-in-None-clause-ok
returns-in-None-clause-ok g c =
    let v = g.S.Space.view c.args.space.now in
    let m = c.args.meeting in
    let front = Stands v m.front.now in
    let to = Has v c.args.to in
    joins_none v c.args.landed (LandsBy v.system front to c.args.cost m.b c.args.z c.args.w) c.requires.landed
    (lands_nowhere v.system front to c.args.cost m.b c.args.z c.args.w c.in-None.ensures)
