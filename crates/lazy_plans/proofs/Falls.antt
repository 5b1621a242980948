-- Of prefixes that pass no state twice, each turn leaves less to do.
use Rattle.std.proofs.Common.{◌≡◌, ℕ, zero, suc, ◌+◌, ◌-◌, ◌<◌, ◌≤◌, List, [], ◌∷◌, length, refl, sym, ◌∙◌, ap, arith}
use Rattle.std.specs.List.{AllByRecursion, sum_by}
use Rattle.std.proofs.lemmas.List.Sums.{sum_by-cons}
use Rattle.symk_task.specs.declared.parts.Mode.TheVariants.{Loopless}
use Rattle.task_system.specs.System.{System}
use Rattle.lazy_plans.specs.Queue.{Good, Replaced, sum_ops}
use Rattle.lazy_plans.specs.Weight.{tree, depth_left, prefix_weight, AreLonger}
use Rattle.lazy_plans.proofs.Once.{short}

weight_sum : (y : System) (es : List (List ℕ)) → prefix_weight y es ≡ sum_by (depth_left y) es
weight_sum y [] = refl
weight_sum y (e ∷ es) = ap (λ (n : ℕ). depth_left y e + n) (weight_sum y es) ∙ sym (sum_by-cons (depth_left y) e es)

weight_replaced : (y : System) (old kids new : List (List ℕ)) (e : List ℕ) → Replaced old kids e new
    → prefix_weight y old + prefix_weight y kids ≡ depth_left y e + prefix_weight y new
weight_replaced y old kids new e r = omega (arith, r (depth_left y), weight_sum y old, weight_sum y kids, weight_sum y new)

kids_weight : (y : System) (e : List ℕ) (kids : List (List ℕ)) → AllByRecursion (λ k. length k ≡ length e + 1) kids
    → prefix_weight y kids + length kids ≡ sum_ops (length kids) (λ op. 1 + tree y.operators
    (length y.states - suc (length e)))
kids_weight y e [] all = refl
kids_weight y e (k ∷ ks) all =
    let long : length k ≡ suc (length e) = omega (arith, all.0) in
    let one : tree y.operators (length y.states - length k) ≡ tree y.operators (length y.states - suc (length e)) =
    ap (λ (n : ℕ). tree y.operators (length y.states - n)) long in
    omega (arith, one, kids_weight y e ks all.1)

sum_up : (k n w : ℕ) → k ≤ n → sum_ops k (λ op. 1 + w) ≤ sum_ops n (λ op. 1 + w)
sum_up zero n w le = omega arith
sum_up (suc k) zero w le = absurd (omega arith)
sum_up (suc k) (suc n) w le = omega (arith, sum_up k n w (omega arith))

less_suc : (n k : ℕ) → k < n → n - k ≡ suc (n - suc k)
less_suc n k b = omega arith

tree_at : (n depth k : ℕ) → k < depth → tree n (depth - k) ≡ 1 + sum_ops n (λ op. 1 + tree n (depth - suc k))
tree_at n depth k b = ap (tree n) (less_suc depth k b)

-- e goes and its children come
pub falls : (y : System) (e : List ℕ) (old kids new : List (List ℕ)) → Good y Loopless e → Replaced old kids e new
    → AreLonger y e kids → prefix_weight y new + length kids < prefix_weight y old
falls y e old kids new good taken children =
    let o = weight_replaced y old kids new e taken in
    let s = short y e good in
    let k = kids_weight y e kids children.longer in
    let m = sum_up (length kids) y.operators (tree y.operators (length y.states - suc (length e))) children.few in
    let t = tree_at y.operators (length y.states) (length e) s in
    omega (arith, o, k, m, t)

-- e is put back
pub back_weight : (y : System) (e : List ℕ) (old new : List (List ℕ)) → Replaced old (e ∷ []) e new → prefix_weight y new ≡ prefix_weight y old
back_weight y e old new taken = omega (arith, weight_replaced y old (e ∷ []) new e taken)
