use Rattle.bidirectional.proofs.Least.{met_back}
use Rattle.bidirectional.proofs.crossing.meets_back.Goals as goal

pub returns-clause-ok : goal.returns-clause-ok
returns-clause-ok g c = met_back (g.S.Space.view c.args.space.now) (g.S.Space.view c.pre_cost.new.self)
    c.in_ok-before.ensures.kept c.args.w c.args.from c.args.to c.in_ok-before.before c.args.room c.meets-some.result
    c.requires.from c.in_ok-before.ensures.ok c.requires.inside c.meets-some.ensures.ok
