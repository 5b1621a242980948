use Rattle.std.proofs.Common.{◌∙◌}
use Rattle.space_api.proofs.Keeping.{stays_refl}
use Rattle.reconstruct.proofs.Parting.{no_layer_finds, finds, finds_of}
use Rattle.reconstruct.proofs.partial.set_by.Goals as goal

pub returns-in-None-clause-ok : goal.returns-in-None-clause-ok
returns-in-None-clause-ok g c =
    let v = g.S.Space.view c.args.space.now in
    no_layer_finds c.args.front.now c.args.prefix.now c.args.op c.requires.op c.requires.entry c.way_for-way.result
    (c.way_for-way.ensures.cost ∙ c.cost_of.ensures) c.way_for-way.ensures.way c.in-None.is (stays_refl v)

pub returns-in-Some-clause-ok : goal.returns-in-Some-clause-ok
returns-in-Some-clause-ok g c = finds_of c.set_before.result (λ o found member. finds c.args.front.now c.args.prefix.now
    c.args.op c.requires.op c.requires.entry c.way_for-way.result (c.way_for-way.ensures.cost ∙ c.cost_of.ensures)
    c.way_for-way.ensures.way c.in-Some.within c.in-Some.is c.requires.front c.set_before.ensures.kept o found member)
    c.set_before.ensures.ok c.set_before.ensures.member
