use Rattle.cost_layers.proofs.Seeding.{if_ok_map}
use Rattle.bidirectional.proofs.Carrying.{both_held}
use Rattle.bidirectional.proofs.Gathered.{begin_cuts}
use Rattle.bidirectional.proofs.Landed.{landed_cuts}
use Rattle.bidirectional.proofs.cutting.ops_from.Goals as goal

pub ops_landed-ops-requires-clause-layers : goal.ops_landed-ops-requires-clause-layers
ops_landed-ops-requires-clause-layers g c = both_held c.requires.layers c.landing.ensures.kept

pub returns-clause-ok : goal.returns-clause-ok
returns-clause-ok g c =
    let same = landed_cuts c.args.to c.in_ok-landed.landed c.requires.layers c.landing.ensures.kept c.in_ok-landed.ensures.ok.means in
    if_ok_map c.ops_landed-ops.result (λ ops h. begin_cuts c.args.wanted c.args.place.op ops.items same h) c.ops_landed-ops.ensures.ok
