use Rattle.space_api.specs.View.{Has}
use Rattle.cost_layers.specs.Layers.{Stands}
use Rattle.cost_search.proofs.Meeting.{test_clash}
use Rattle.bidirectional.specs.Cutting.{IsFirstOp}
use Rattle.bidirectional.proofs.Gathered.{begin_none}
use Rattle.bidirectional.proofs.cutting.ops_landed.Goals as goal

pub returns-then-is_empty-clause-ok : goal.returns-then-is_empty-clause-ok
returns-then-is_empty-clause-ok g c =
    let v = g.S.Space.view c.args.space.now in
    begin_none (IsFirstOp v.system (Stands v c.args.meeting.front.now) (Has v c.args.to) c.args.cost c.args.meeting.b c.args.place.z) c.args.wanted
    c.args.place.op _ c.new.ensures.items
    (λ op ge cut. let m = cut.meets in test_clash m.inside (c.is_empty.ensures.empty.0 c.if-is_empty.true m.to))
