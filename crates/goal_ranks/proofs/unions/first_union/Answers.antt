use Rattle.std.proofs.Common.{length, refl, arith}
use Rattle.std.proofs.lemmas.Option.{slice_get_read}
use Rattle.space_api.proofs.Keeping.{stays_trans}
use Rattle.goal_ranks.proofs.Uniting.{meets_kept, halved}
use Rattle.goal_ranks.proofs.unions.first_union.Goals as goal

pub meets-requires-clause-a : goal.meets-requires-clause-a
meets-requires-clause-a g c =
    let u = c.index-unions-place.result in
    let at = slice_get_read c.args.unions.now (length c.args.unions.now) c.place_in-place.result u refl
    (omega (arith, c.place_in-place.ensures.high, c.halves.invariant.high)) c.index-unions-place.is in
    c.halves.invariant.stays.kept.valid u.states (c.requires.unions.valid c.place_in-place.result u.states (u, at, refl))

pub halves-preserved : goal.halves-preserved
halves-preserved g c =
    let view = g.S.Space.view in
    let v = view c.args.space.now in
    let us = c.args.unions.now in
    let i = c.halves.invariant in
    let place = c.place_in-place.result in
    let u = c.index-unions-place.result in
    let at = slice_get_read us (length us) place u refl (omega (arith, c.place_in-place.ensures.high, i.high)) c.index-unions-place.is in
    let k = meets_kept v (view c.halves.space) c.args.set u i.stays.kept (c.requires.unions.valid place u.states (u, at, refl)) c.requires.set in
    let t = c.in_ok-met.ensures.ok in
    let h = halved v us c.args.set c.requires.unions c.in_ok-met.met
    c.half-span.result.low c.half-span.result.high u at
    c.place_in-place.ensures.low c.place_in-place.ensures.high ((λ b. k.0 (t.0 b)), (λ m. t.1 (k.1 m))) c.half-span.ensures i.splits in
    record {
      stays = stays_trans i.stays c.meets.ensures.stays;
      order = h.0;
      high = omega (arith, h.1, i.high);
      splits = h.3;
    }
