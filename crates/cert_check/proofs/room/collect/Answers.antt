use Rattle.std.proofs.Common.{◌∙◌, ℕ, List, length, get_or, ap}
use Rattle.cert_check.proofs.Carrying.{carried_by, all_known}
use Rattle.cert_check.proofs.room.collect.Goals as goal

pub moved-requires : goal.moved-requires
moved-requires c = all_known c.args.ops.now c.args.derived.now c.args.members c.in_ok-roots.roots.items
    c.in_ok-roots.ensures c.requires.roots c.requires.members

pub returns-clause-carried : goal.returns-clause-carried
returns-clause-carried c =
    carried_by c.args.derived.now c.args.members c.in_ok-places.places.items
    c.in_ok-roots.ensures c.in_ok-places.ensures.moved c.put_roots.ensures.count
    (λ var lt. c.put_roots.ensures.each var lt ∙ ap (λ (xs : List ℕ). get_or xs var 0)
    c.as_slice-at.ensures.value)
    (ap (λ (xs : List ℕ). get_or xs (length c.roots-count.result.now) 0) c.as_slice-at.ensures.value
    ∙ ap (λ (xs : List ℕ). get_or c.in_ok-places.places.items (length xs) 0) c.roots-count.ensures)
