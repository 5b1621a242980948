use Rattle.std.proofs.Common.{◌≡◌, length, refl, arith}
use Rattle.std.proofs.lemmas.Option.{slice_get_read}
use Rattle.space_api.proofs.Trading.{trades_forgot}
use Rattle.goal_ranks.specs.Unions.{UnionSet}
use Rattle.goal_ranks.proofs.Giving.{none_yet, next_valid, more_given, all_given}
use Rattle.goal_ranks.proofs.Uniting.{union_set, union_low}
use Rattle.goal_ranks.proofs.unions.forget_unions.Goals as goal

pub unions-init : goal.unions-init
unions-init g c = none_yet (g.S.Space.view c.args.space.now) (UnionSet c.args.unions.now)

pub forget-requires : goal.forget-requires
forget-requires g c =
    let us = c.args.unions.now in
    let u = c.index-unions-i.result in
    let at = slice_get_read us (length us) c.unions.i u refl (omega (arith, c.unions-test.true)) c.index-unions-i.is in
    next_valid (UnionSet us) c.unions.i c.unions.invariant u.states c.requires.once (u, at, refl) (c.requires.valid c.unions.i u.states (u, at, refl))

pub unions-preserved : goal.unions-preserved
unions-preserved g c =
    let us = c.args.unions.now in
    let u = c.index-unions-i.result in
    let at = slice_get_read us (length us) c.unions.i u refl (omega (arith, c.unions-test.true)) c.index-unions-i.is in
    more_given (UnionSet us) c.unions.i (λ a. a ≡ u.states) (union_set us c.unions.i u at) c.unions.invariant (trades_forgot u.states c.forget.ensures)

pub returns : goal.returns
returns g c =
    let us = c.args.unions.now in
    all_given (UnionSet us) c.unions.i (λ i a h. let lt = union_low us i a h in omega (arith, lt, c.unions-test.false)) c.unions.invariant
