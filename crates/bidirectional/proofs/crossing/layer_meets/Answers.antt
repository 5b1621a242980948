use Rattle.std.proofs.Common.{sym, ◌∙◌}
use Rattle.bidirectional.proofs.Carrying.{front_set}
use Rattle.bidirectional.proofs.crossing.layer_meets.Goals as goal

pub meets_by-requires-clause-inside : goal.meets_by-requires-clause-inside
meets_by-requires-clause-inside g c s p = let o = p.1 in let t = o.2 in
    c.requires.inside c.args.x o.0 s t.0 ((front_set c.args.x c.in-Some.layer c.requires.layers
    (sym c.layer.ensures ∙ c.in-Some.is) s).0 p.0) t.2 t.1
