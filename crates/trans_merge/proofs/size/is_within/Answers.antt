use Rattle.std.proofs.Common.{◌≡◌, ◌≤◌, ◌↔◌, ◌⊎◌, ◌∷◌, [], ℕ, List, true, refl, ap, subst, arith}
use Rattle.std.proofs.lemmas.Map.Keys.{ge_from_not_lt}
use Rattle.trans_merge.proofs.Visiting.{IsCounted, in_keys, counted_none, counted_next, pop_law, at_the_bound, before_the_bound, none_left}
use Rattle.trans_merge.proofs.size.is_within.Goals as goal

pub nodes-init : goal.nodes-init
nodes-init c = (
  [],
  counted_none c.args.table.now c.args.root (in_keys c.new-waiting.result.keys)
      (in_keys c.put.new.waiting.keys) c.requires (λ q. ap (λ (ks : List ℕ). in_keys ks q)
      c.new-waiting.ensures.empty) c.in_ok-put.ensures,
)

pub nodes-preserved : goal.nodes-preserved
nodes-preserved c =
    let has = in_keys c.nodes.waiting.keys in
    let rest = in_keys c.pop_last.new.self.keys in
    let more = in_keys c.put-in-nodes.new.waiting.keys in
    let most = in_keys c.put-in-nodes-2.new.waiting.keys in
    let k = c.in-Some.id in (
      k ∷ c.nodes.invariant.0,
      counted_next c.args.table.now c.args.root c.held.ensures.reduced has rest more most c.nodes.counter k
          c.nodes.invariant.0 c.nodes.invariant.1 c.in-Some.ensures.member
          (λ q h. ge_from_not_lt k q (c.in-Some.ensures.greatest q h))
          (λ q. pop_law k q (has q) (rest q) (c.in-Some.ensures.updates.0 q))
          (λ q. subst (λ (x : ℕ). (more q ≡ true) ↔ (((q ≡ x) × (2 ≤ x)) ⊎ (rest q ≡ true))) c.lo.ensures.value (c.in_ok-put-2.ensures q))
          (λ q. subst (λ (x : ℕ). (most q ≡ true) ↔ (((q ≡ x) × (2 ≤ x)) ⊎ (more q ≡ true))) c.hi.ensures.value (c.in_ok-put-3.ensures q)),
    )

pub returns-in_default : goal.returns-in_default
returns-in_default c = (
  (λ _. before_the_bound c.args.table.now c.args.root c.nodes.counter c.args.bound c.nodes.invariant.0
      c.nodes.waiting.keys c.held.ensures.reduced c.nodes.invariant.1
      (none_left c.pop_last.result _ c.in_default.not-Some c.pop_last.ensures.variant) (let t = c.nodes-test.true in omega (arith, t))),
  (λ _. refl),
)

pub returns : goal.returns
returns c =
    let e : c.nodes.counter ≡ c.args.bound = (let t = c.nodes-test.false in let a = c.nodes.auto.counter-end in omega (arith, t, a)) in
    at_the_bound c.args.table.now c.args.root c.args.bound c.nodes.invariant.0 c.nodes.waiting.keys c.is_empty.result c.held.ensures.reduced
    (subst (λ (n : ℕ). IsCounted c.args.table.now c.args.root (in_keys c.nodes.waiting.keys) n c.nodes.invariant.0) e c.nodes.invariant.1) c.is_empty.ensures
