use Rattle.mutex_use.proofs.Counting.{counts_moved}
use Rattle.mutex_use.proofs.Lists.{if_ok_both}
use Rattle.mutex_use.proofs.counts.counts_more.Goals as goal

pub returns-clause-more : goal.returns-clause-more
returns-clause-more g c =
    let view = g.S.Space.view in
    if_ok_both c.counts_with-next.result
    (λ n pair more. counts_moved (view c.args.space.now) (view c.fact_in.new.self) (view c.counts_with-next.new.space)
    (view c.forget.new.self) c.args.counts n c.in_ok-here.here c.fact_in.ensures.kept c.in_ok-here.ensures.ok
    c.requires.once c.requires.twice pair more c.forget.ensures)
    c.counts_with-next.ensures.pair c.counts_with-next.ensures.more
