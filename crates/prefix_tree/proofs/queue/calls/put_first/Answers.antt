use Rattle.std.proofs.Common.{rules}
use Rattle.std.proofs.lemmas.List.Sorted.{IsPermutation-trans, IsPermutation-cons}
use Rattle.std.proofs.lemmas.Option.{MatchOption-at_some}
use Rattle.prefix_tree.proofs.queue.calls.put_first.Goals as goal

pub returns-clause-items : goal.returns-clause-items
returns-clause-items c =
    let top = c.unwrap-top.result in
    let rest = MatchOption-at_some _ _ top c.unwrap-top.ensures c.peek_mut.ensures.rest in
    let t = IsPermutation-trans _ _ _ (IsPermutation-cons c.args.entry _ _ rest) (c.drop-top.ensures.permutation (search rules)) in
    search rules
