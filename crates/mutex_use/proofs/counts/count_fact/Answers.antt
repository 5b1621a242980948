use Rattle.mutex_use.proofs.Counting.{counts_after}
use Rattle.mutex_use.proofs.Lists.{if_ok_both}
use Rattle.mutex_use.proofs.counts.count_fact.Goals as goal

pub returns-clause-more : goal.returns-clause-more
returns-clause-more g c =
    let view = g.S.Space.view in
    if_ok_both c.counts_more-next.result
    (λ n pair more. counts_after (view c.args.space.now) (view c.counts_more-next.new.space) (view c.forget.new.self)
    (view c.forget-2.new.self) c.args.counts n c.requires.once c.requires.twice pair more
    c.forget.ensures c.forget-2.ensures)
    c.counts_more-next.ensures.pair c.counts_more-next.ensures.more
