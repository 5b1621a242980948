use Rattle.std.proofs.Common.{◌≡◌, ℕ, ◌-◌, List, length, map, ◌∙◌, ap, arith}
use Rattle.std.specs.List.{range_with_len}
use Rattle.std.proofs.lemmas.List.FromFn.{length-map-range_with_len}
use Rattle.certificates.specs.declared.node.CertNode.{CertNode}
use Rattle.certificates.specs.Listed.{listed_at, listed}
use Rattle.certificates.proofs.Ranges.{map_next, node_as}
use Rattle.certificates.proofs.listing.nodes_of.Goals as goal

pub loop-i-preserved : goal.loop-i-preserved
loop-i-preserved c =
    map_next (listed_at c.args.table.now) c.loop-i.i c.loop-i.nodes c.push.new.self _ c.loop-i.invariant
    (node_as c.args.table.now c.loop-i.i c.get-node.result c.from.result c.from-in-loop-i.result c.get-node.ensures.is
    c.from.ensures c.from-in-loop-i.ensures) c.in_ok-push.ensures.ok

pub returns-clause-are : goal.returns-clause-are
unfolding listed
returns-clause-are c =
    let e : c.loop-i.i ≡ length c.args.table.now - 2 = (let a = c.loop-i.auto.i-end in let b = c.loop-i-test.false in
    let d = c.held-i-end.ensures.count in omega (arith, a, b, d)) in
    c.loop-i.invariant ∙ ap (λ (n : ℕ). map (listed_at c.args.table.now) (range_with_len 0 n)) e

pub returns-clause-few : goal.returns-clause-few
returns-clause-few c =
    let many : length c.loop-i.nodes ≡ c.loop-i.i = ap (λ (xs : List CertNode). length xs) c.loop-i.invariant
    ∙ length-map-range_with_len (listed_at c.args.table.now) 0 c.loop-i.i in
    let end = c.loop-i.auto.i-end in
    let held = c.held-i-end.ensures.small in
    omega (arith, many, end, held)
