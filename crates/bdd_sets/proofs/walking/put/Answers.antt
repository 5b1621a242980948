use Rattle.std.proofs.Common.{sym, ◌∙◌, arith}
use Rattle.bdd_sets.proofs.Passing.{put_last, put_more}
use Rattle.bdd_sets.proofs.walking.put.Goals as goal

pub returns-then-index-id : goal.returns-then-index-id
returns-then-index-id c = put_last c.args.ends.now.items c.in-Some.last c.args.id c.index.result.now
    (omega (arith, c.in-Some.ensures, c.len.ensures)) (sym c.index.ensures ∙ c.if-index-id.true)

pub returns : goal.returns
returns c = rw c.in_ok-push.ensures.items (put_more c.args.ends.now.items c.args.id)
