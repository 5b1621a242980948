use Rattle.std.proofs.Common.{◌≡◌, length, refl, arith}
use Rattle.std.proofs.lemmas.Option.{slice_get_read}
use Rattle.space_api.proofs.Trading.{trades_forgot}
use Rattle.goal_ranks.specs.Giving.{RankSet}
use Rattle.goal_ranks.proofs.Giving.{none_yet, next_valid, more_given, all_given, rank_set, rank_low}
use Rattle.goal_ranks.proofs.release.forget_ranks.Goals as goal

pub ranks-init : goal.ranks-init
ranks-init g c = none_yet (g.S.Space.view c.args.space.now) (RankSet c.args.ranks.now)

pub forget-requires : goal.forget-requires
forget-requires g c =
    let xs = c.args.ranks.now in
    let at = slice_get_read xs (length xs) c.ranks.i c.index-ranks-i.result refl (omega (arith, c.ranks-test.true)) c.index-ranks-i.is in
    next_valid (RankSet xs) c.ranks.i c.ranks.invariant c.index-ranks-i.result.set c.requires.once
    (c.index-ranks-i.result, at, refl) (c.requires.valid c.ranks.i c.index-ranks-i.result.set
    (c.index-ranks-i.result, at, refl))

pub ranks-preserved : goal.ranks-preserved
ranks-preserved g c =
    let xs = c.args.ranks.now in
    let r = c.index-ranks-i.result in
    let at = slice_get_read xs (length xs) c.ranks.i r refl (omega (arith, c.ranks-test.true)) c.index-ranks-i.is in
    more_given (RankSet xs) c.ranks.i (λ a. a ≡ r.set) (rank_set xs c.ranks.i r at) c.ranks.invariant (trades_forgot r.set c.forget.ensures)

pub returns : goal.returns
returns g c =
    let xs = c.args.ranks.now in
    all_given (RankSet xs) c.ranks.i (λ i a h. let lt = rank_low xs i a h in omega (arith, lt, c.ranks-test.false)) c.ranks.invariant
