use Rattle.std.proofs.Common.{◌≡◌, ◌<◌, List, ℕ, IsTrue, length, get_or, sym, subst}
use Rattle.prefix_tree.specs.Tree.{path_at}
use Rattle.member_laws.specs.Nodes.{JoinsAtNode, IsJoinedAtNode}
use Rattle.member_plans.specs.Opened.{places_of_opened, opened_of}
use Rattle.member_plans.proofs.Meeting.{place_listed, if_weaker, below}
use Rattle.member_plans.proofs.opened.Opened.finds.Goals as goal

pub returns-in-Some-get-clause-joined : goal.returns-in-Some-get-clause-joined
returns-in-Some-get-clause-joined c y ss z =
    let nodes = c.args.tree.now in
    let me = path_at nodes c.args.node in
    let places = places_of_opened c.args.self.now in
    let place = c.in-Some-get.place.now in
    let look = c.in-Some-get.ensures.lookup in
    let within : c.in-Some.number < length c.deref.result.now = below c.in-Some.number (length c.deref.result.now) look.0 in
    let less : c.in-Some.number < length places = subst (λ (l : List ℕ). c.in-Some.number < length l) c.deref.ensures.value within in
    let is : get_or places c.in-Some.number place ≡ place = sym
    (subst (λ (l : List ℕ). place ≡ get_or l c.in-Some.number place) c.deref.ensures.value look.1) in
    if_weaker (λ found. IsTrue found → JoinsAtNode y me (path_at nodes place))
    (λ found. IsTrue found → IsJoinedAtNode y (opened_of nodes places) me) c.do_join.result
    (λ found h on. (path_at nodes place, place_listed nodes places c.in-Some.number place place less is, h on)) (c.do_join.ensures y ss z)
