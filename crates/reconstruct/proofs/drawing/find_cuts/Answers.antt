use Rattle.bidirectional.specs.Both.{b_of}
use Rattle.reconstruct.proofs.Ready.{found_ready, found_none}
use Rattle.reconstruct.proofs.drawing.find_cuts.Goals as goal

pub returns-clause-ready : goal.returns-clause-ready
returns-clause-ready g c =
    let v = g.S.Space.view c.args.space.now in
    found_ready v.system (b_of c.args.both.now) c.args.place.now.cost c.args.place.now.after c.in_ok-cuts.cuts.items _ c.from.ensures.0 c.in_ok-cuts.ensures.ok

pub returns-clause-ok : goal.returns-clause-ok
returns-clause-ok g c =
    let v = g.S.Space.view c.args.space.now in
    found_none v.system (b_of c.args.both.now) c.args.place.now.cost c.args.place.now.after c.in_ok-cuts.cuts.items _ c.from.ensures.0 c.in_ok-cuts.ensures.ok
