use Rattle.space_api.proofs.Keeping.{kept_trans}
use Rattle.space_api.proofs.Trading.{valid_clash}
use Rattle.reconstruct.proofs.Sets.{in_valid, made_back, new_stays, new_back}
use Rattle.reconstruct.proofs.partial.parted.Goals as goal

pub give_back_entries-requires-clause-valid : goal.give_back_entries-requires-clause-valid
give_back_entries-requires-clause-valid g c = rw c.deref.ensures.value
    (λ a h. in_valid (g.S.Space.view c.put_parts.new.space) c.put_parts.new.entries.items a c.in-Err.ensures.err.each h)

pub forget-requires : goal.forget-requires
forget-requires g c = (rw c.deref.ensures.value at c.give_back_entries.ensures).others c.args.set
    (c.put_parts.ensures.kept.valid c.args.set c.requires.set)
    (λ h. valid_clash c.requires.set (c.in-Err.ensures.err.fresh c.args.set h))

pub returns-in-Err-clause-err : goal.returns-in-Err-clause-err
returns-in-Err-clause-err g c u k new =
    let view = g.S.Space.view in
    let v = view c.args.space.now in
    let x = view c.give_back_entries.new.space in
    let back = made_back v (view c.put_parts.new.space) x c.put_parts.new.entries.items c.in-Err.ensures.err
    (rw c.deref.ensures.value at c.give_back_entries.ensures) in
    new_back u x (view c.forget.new.self) c.args.set (kept_trans k back.kept) (new_stays u v x c.args.set new back) c.forget.ensures
