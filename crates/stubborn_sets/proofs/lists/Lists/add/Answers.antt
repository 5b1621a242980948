use Rattle.std.proofs.Common.{List, ℕ, [], ◌∷◌, ◌++◌, ◌<◌, length, Some, ap, sym, ◌∙◌, arith}
use Rattle.std.specs.Vec.{with_item}
use Rattle.std.proofs.lemmas.Option.{slice_get-get_or}
use Rattle.stubborn_sets.specs.Kept.{list_at, list_in, items_in}
use Rattle.stubborn_sets.proofs.ListsLaw.{put_adds, adds_from}
use Rattle.stubborn_sets.proofs.lists.Lists.add.Goals as goal

pub returns-clause-adds : goal.returns-clause-adds
returns-clause-adds c =
    let xs = c.places.self.lists.items in
    let n = c.args.number in
    let op = c.args.op in
    let was = c.index_mut.result.now in
    let new = c.push-2.new.self in
    let lt : n < length xs = omega (arith, c.places-test.false, c.len.ensures) in
    let here = ap items_in (slice_get-get_or xs n was lt ∙ ap Some (sym c.index_mut.ensures.value)) in
    adds_from (list_at c.args.self.now) (list_at c.places.self) (list_in (with_item c.places.self.lists n new).items) op c.places.invariant
    (put_adds xs n new op lt (c.in_ok-push-2.ensures.items ∙ ap (λ (z : List ℕ). z ++ op ∷ []) (sym here)))
