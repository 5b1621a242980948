use Rattle.std.proofs.Common.{sym, ◌∙◌}
use Rattle.run_graph.specs.Layering.{InLayer}
use Rattle.cost_layers.specs.Layers.{Stands, rings_at, union_at}
use Rattle.cost_layers.proofs.Holding.{whole_valid}
use Rattle.cost_layers.proofs.Seeding.{if_ok_map}
use Rattle.bidirectional.specs.Cutting.{IsFirstOp}
use Rattle.bidirectional.proofs.Firsts.{cuts_layer, no_cut}
use Rattle.bidirectional.proofs.Gathered.{begin_cuts, begin_none}
use Rattle.bidirectional.proofs.cutting.ops_into.Goals as goal

pub ops_from-requires-clause-to : goal.ops_from-requires-clause-to
ops_from-requires-clause-to g c =
    whole_valid (g.S.Space.view c.args.space.now) (rings_at c.args.meeting.back.now) (union_at c.args.meeting.back.now) c.requires.layers.back
    c.args.place.z c.in-Some.whole (sym c.layer.ensures ∙ c.in-Some.is)

pub returns-in-Some-clause-ok : goal.returns-in-Some-clause-ok
returns-in-Some-clause-ok g c =
    if_ok_map c.ops_from.result
    (λ ops h. begin_cuts c.args.wanted c.args.place.op ops.items (λ op. cuts_layer c.in-Some.whole c.requires.layers (sym c.layer.ensures ∙ c.in-Some.is)) h)
    c.ops_from.ensures.ok

pub returns-in-None-clause-ok : goal.returns-in-None-clause-ok
returns-in-None-clause-ok g c =
    let v = g.S.Space.view c.args.space.now in
    let m = c.args.meeting in
    let z = c.args.place.z in
    begin_none (IsFirstOp v.system (Stands v m.front.now) (InLayer (Stands v m.back.now) z) c.args.cost m.b z) c.args.wanted c.args.place.op _
    c.new.ensures.items
    (λ op ge. no_cut v m.front.now m.back.now c.args.cost m.b z op c.requires.layers.back (sym c.layer.ensures ∙ c.in-None.is))
