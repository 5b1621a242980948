use Rattle.std.proofs.Common.{ℕ, List, ◌+◌, take, sym, subst}
use Rattle.std.specs.List.{AllZip}
use Rattle.symk_task.specs.declared.parts.Fact.{Fact}
use Rattle.bdd_sets.specs.Placed.{ArePlacesOf}
use Rattle.bdd_sets.proofs.Missing.{zip_more}
use Rattle.bdd_sets.proofs.placing.all_places.Goals as goal

pub lists-preserved : goal.lists-preserved
lists-preserved c =
    let o = c.args.order.now in
    let starts = c.args.starts.now in
    let lists = c.args.lists.now in
    let i = c.lists.facts-index in
    subst (λ (all : List (List ℕ)). AllZip (ArePlacesOf o starts) (take (i + 1) lists) all) (sym c.in_ok-push.ensures.items)
    (zip_more o starts lists c.lists.all.items i c.facts-item.result c.in_ok-places_of.field-0 c.lists-test.true c.facts-item.is c.lists.invariant
    (subst (λ (fs : List Fact). ArePlacesOf o starts fs c.in_ok-places_of.field-0) c.as_slice.ensures c.in_ok-places_of.ensures))
