use Rattle.space_api.specs.View.{Has}
use Rattle.space_api.specs.Frames.{Stays}
use Rattle.cost_layers.specs.Layers.{Stands}
use Rattle.bidirectional.proofs.Gathered.{Gathered}
use Rattle.bidirectional.proofs.cutting.ops_among.Given as goal

abbrev pub invariant-operators : goal.invariant-operators
invariant-operators g l =
    let v = g.S.Space.view l.fn.space in
    record {
      stays : Stays v (g.S.Space.view l.space);
      found : Gathered v.system (Stands v l.meeting.front.now) (Has v l.to) l.cost l.meeting.b l.place.z l.op-items l.op-index l.place.op l.found.items;
    }
