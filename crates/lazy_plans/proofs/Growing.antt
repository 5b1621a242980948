-- The children of a prefix, operator after operator.
use Rattle.std.proofs.Common.{◌≡◌, ℕ, zero, suc, ◌+◌, ◌<◌, ◌≤◌, List, [], ◌∷◌, ◌++◌, refl, subst, arith, add-one}
use Rattle.symk_task.specs.declared.parts.Mode.{Mode}
use Rattle.task_system.specs.System.{System}
use Rattle.lazy_plans.specs.Queue.{prefix, ind, sum_ops, Hopeless, ChildrenBelow}
use Rattle.lazy_plans.proofs.Splits.{count_join}

sum_next : (n : ℕ) (f : ℕ → ℕ) → sum_ops (n + 1) f ≡ sum_ops n f + f n
sum_next n f = rw add-one refl

module _ (y : System) (m : Mode) (e : List ℕ) where
  pub children_none : ChildrenBelow y m e 0 []
  children_none p i = refl

  -- the child by the next operator
  pub children_more : (n : ℕ) (kids : List (List ℕ)) → ChildrenBelow y m e n kids → ChildrenBelow y m e (n + 1) (kids ++ (e ++ n ∷ []) ∷ [])
  children_more n kids c p i = omega (arith, sum_next n (λ op. ind (prefix (e ++ op ∷ []) p)), c p i, count_join kids ((e ++ n ∷ []) ∷ []) p)

  -- no plan goes on by the next operator
  pub children_skip : (n : ℕ) (kids : List (List ℕ)) → ChildrenBelow y m e n kids → Hopeless y m (e ++ n ∷ []) → ChildrenBelow y m e (n + 1) kids
  children_skip n kids c lost p i = omega (arith, sum_next n (λ op. ind (prefix (e ++ op ∷ []) p)), c p i, lost p i)

  -- nor by any of the next so many
  pub children_past : (n k : ℕ) (kids : List (List ℕ)) → ChildrenBelow y m e n kids
      → ((op : ℕ) → n ≤ op → op < n + k → Hopeless y m (e ++ op ∷ [])) → ChildrenBelow y m e (n + k) kids
  children_past n zero kids c lost = let same : n ≡ n + 0 = omega arith in subst (λ (w : ℕ). ChildrenBelow y m e w kids) same c
  children_past n (suc k) kids c lost =
      let same : n + k + 1 ≡ n + suc k = omega arith in
      let before = children_past n k kids c (λ op ge lt. lost op ge (omega (arith, lt))) in
      subst (λ (w : ℕ). ChildrenBelow y m e w kids) same (children_skip (n + k) kids before (lost (n + k) (omega arith) (omega arith)))
