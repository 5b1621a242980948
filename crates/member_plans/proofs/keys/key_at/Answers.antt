use Rattle.std.proofs.Common.{◌≡◌, ℕ, ◌+◌, ◌≤◌, List, [], ◌∷◌, ◌++◌, length, take, sym, ◌∙◌, ap, arith}
use Rattle.std.proofs.Math.Seq.{take-length}
use Rattle.std.proofs.lemmas.List.{take_more}
use Rattle.prefix_tree.specs.Tree.{state_number_at}
use Rattle.prefix_tree.proofs.Passing.{number_is}
use Rattle.member_plans.proofs.keys.key_at.Goals as goal

-- one more of the operators
next : (n : ℕ) (p key new : List ℕ) (i x : ℕ) → key ≡ n ∷ take i p → new ≡ key ++ x ∷ [] → take (i + 1) p ≡ take i p ++ x ∷ [] → new ≡ n ∷ take (i + 1) p
next n p key new i x sofar pushed more = pushed ∙ (ap (λ (k : List ℕ). k ++ x ∷ []) sofar ∙ ap (λ (k : List ℕ). n ∷ k) (sym more))

all_of : (p : List ℕ) (i : ℕ) → length p ≤ i → i ≤ length p → take i p ≡ p
all_of p i le ge = let e : i ≡ length p = omega (arith, le, ge) in rw e (take-length p)

pub operators-init : goal.operators-init
operators-init c =
    let number = number_is c.args.tree.now c.args.node c.node_at-here.result c.requires.node (c.node_at-here.ensures c.node_at-here.result) in
    rw (c.in_ok-push.ensures.items, c.new-key.ensures.items) (ap (λ (k : ℕ). k ∷ []) number)

pub operators-preserved : goal.operators-preserved
operators-preserved c = next (state_number_at c.args.tree.now c.args.node) c.deref-op-items.result.now c.operators.key.items
    c.push-in-operators.new.self.items c.operators.op-index _ c.operators.invariant c.in_ok-push-2.ensures.items
    (take_more c.deref-op-items.result.now c.operators.op-index 0 c.operators-test.true)

pub returns : goal.returns
returns c =
    let whole = all_of c.deref-op-items.result.now c.operators.op-index c.operators-test.false c.operators.auto.op-index-end in
    record {
      sorted = c.in_ok-operators.operators.items;
      is = c.operators.invariant ∙ ap (λ (p : List ℕ). state_number_at c.args.tree.now c.args.node ∷ p) (whole ∙ c.deref-op-items.ensures.value);
      permutation = c.in_ok-operators.ensures.permutation;
      rising = c.in_ok-operators.ensures.rising;
    }
