use Rattle.std.proofs.Common.{◌≡◌, ℕ, length, subst, arith}
use Rattle.std.specs.List.{Contains}
use Rattle.bdd_sets.proofs.FactLists.{OthersBelow, others_none, others_more, others_all}
use Rattle.bdd_sets.proofs.stepping.add_others.Goals as goal

pub prevail-init : goal.prevail-init
prevail-init c = others_none c.args.prevail.now c.args.facts.now c.args.on.now

pub prevail-preserved : goal.prevail-preserved
prevail-preserved c =
    others_more (λ f. Contains c.args.facts.now f) c.args.prevail.now c.prevail.facts c.add_kept.new.facts c.args.on.now c.prevail.fact-index _
    (let t = c.prevail-test.true in omega (arith, t)) c.prevail.invariant c.in_ok-add_kept.ensures

pub returns : goal.returns
returns c =
    let all : c.prevail.fact-index ≡ length c.args.prevail.now =
    (let t = c.prevail-test.false in let e = c.prevail.auto.fact-index-end in omega (arith, t, e)) in
    others_all (λ f. Contains c.args.facts.now f) c.args.prevail.now c.prevail.facts c.args.on.now
    (subst (λ (n : ℕ). OthersBelow (λ f. Contains c.args.facts.now f) c.args.prevail.now c.args.on.now n c.prevail.facts) all c.prevail.invariant)
