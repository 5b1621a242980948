use Rattle.cost_to_go.proofs.Moving.{both_kept}
use Rattle.cost_to_go.proofs.search.CostToGo.is_layer_met.Goals as goal

pub is_ranked_in-requires-clause-stands : goal.is_ranked_in-requires-clause-stands
is_ranked_in-requires-clause-stands g c =
    let view = g.S.Space.view in
    let f = c.args.self.now in
    both_kept (view c.args.space.now) (view c.is_first_in.new.space) f.ranks f.ahead f.rings f.everywhere f.next c.requires c.is_first_in.ensures.kept
