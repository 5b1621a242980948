use Rattle.std.proofs.Common.{inr}
use Rattle.trans_merge.proofs.Found.{found_by, none_found_by, single_is}
use Rattle.trans_merge.proofs.merging.join_both.Goals as goal

pub returns-clause-joined : goal.returns-clause-joined
returns-clause-joined c =
    let a = c.index-left-0.result in
    let b = c.index-right-0.result in
    let is_a = single_is c.args.left.now a c.if-left-ne1.false c.index-left-0.is in
    let is_b = single_is c.args.right.now b c.if-right-ne1.false c.index-right-0.is in
    found_by c.join_within.result _ _ _ c.join_within.ensures.joined c.join_within.ensures.within (λ x made few. (a, b, is_a, is_b, made, few))

pub returns-clause-apart : goal.returns-clause-apart
returns-clause-apart c =
    let a = c.index-left-0.result in
    let b = c.index-right-0.result in
    let is_a = single_is c.args.left.now a c.if-left-ne1.false c.index-left-0.is in
    let is_b = single_is c.args.right.now b c.if-right-ne1.false c.index-right-0.is in
    none_found_by c.join_within.result _ _ c.join_within.ensures.large (λ (joined, made, large). inr (a, b, joined, is_a, is_b, made, large))
