use Rattle.std.proofs.Common.{◌≡◌, ℕ, List, [], length, sym, subst, arith, rules}
use Rattle.std.proofs.lemmas.List.{get_or_default}
use Rattle.bdd_sets.proofs.FactLists.{PlacedBelow, placed_none, placed_more, placed_all}
use Rattle.bdd_sets.proofs.placing.places_of.Goals as goal

pub facts-init : goal.facts-init
facts-init c =
    let same : c.of-places.result ≡ [] = search rules in
    subst (λ (xs : List ℕ). PlacedBelow c.args.order.now c.args.starts.now c.args.facts.now 0 xs) (sym same)
    (placed_none c.args.order.now c.args.starts.now c.args.facts.now)

pub facts-preserved : goal.facts-preserved
facts-preserved c = placed_more c.args.order.now c.args.starts.now c.args.facts.now c.facts.fact-index _
    c.facts.places c.add_place.new.places c.facts-test.true
    (get_or_default c.args.facts.now c.facts.fact-index _ _ c.facts-test.true) c.facts.invariant
    c.in_ok-add_place.ensures

pub returns : goal.returns
returns c =
    let all : c.facts.fact-index ≡ length c.args.facts.now = (let t = c.facts-test.false in let e = c.facts.auto.fact-index-end in omega (arith, t, e)) in
    placed_all c.args.order.now c.args.starts.now c.args.facts.now c.facts.places
    (subst (λ (n : ℕ). PlacedBelow c.args.order.now c.args.starts.now c.args.facts.now n c.facts.places) all
    c.facts.invariant)
