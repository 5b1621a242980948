-- Prefixes that go on from one by the same operators join.
use Rattle.std.proofs.Common.{◌≡◌, ℕ, ◌<◌, ◌==◌, cond, List, ◌++◌, length, reverse, sym, ◌∙◌, subst}
use Rattle.std.specs.List.Sorted.{IsPermutation, IsNonDecreasing}
use Rattle.std.proofs.lemmas.List.Sorted.{IsPermutation-reverse, sum_by-IsPermutation}
use Rattle.symk_task.specs.declared.parts.Mode.TheVariants.{TopK, Unordered}
use Rattle.symk_task.specs.Plans.{Same}
use Rattle.symk_task.proofs.Rising.{sorted_same}
use Rattle.task_system.specs.System.{State, System, RunsInSystem}
use Rattle.prefix_tree.specs.StateGraph.{numbered_state}
use Rattle.prefix_tree.specs.Tree.{IsTree, path_at, state_number_at}
use Rattle.prefix_tree.specs.declared.tree.Node.{Node}
use Rattle.member_laws.specs.Nodes.{JoinsAtNode}
use Rattle.member_laws.proofs.Joining.{same_after}
use Rattle.member_plans.specs.Joining.{Fork}

-- lists that are one once sorted
pub rearranged_from : (p q r s : List ℕ) → IsPermutation p r → IsPermutation q s → IsNonDecreasing r → IsNonDecreasing s → r ≡ s → Same Unordered p q
rearranged_from p q r s left right up vp e = (sorted_same p q r s left right up vp).0 e

turned : (p : List ℕ) → Same Unordered (reverse p) p
turned p a = sum_by-IsPermutation (λ b. cond (a == b) 1 0) p (reverse p) (IsPermutation-reverse p)

both_turned : (p q : List ℕ) → Same Unordered p q → Same Unordered (reverse p) (reverse q)
both_turned p q h a = turned p a ∙ (h a ∙ sym (turned q a))

pub fork_joins : (y : System) (ss : List State) (nodes : List Node) {i j : ℕ} {one other : List ℕ}
    → IsTree y TopK ss nodes → i < length nodes → j < length nodes
    → state_number_at nodes i ≡ state_number_at nodes j → Fork nodes i j one other → Same Unordered one other
    → JoinsAtNode y (path_at nodes i) (path_at nodes j)
fork_joins y ss nodes {i} {j} {one} {other} z lt less end f h = record {
  same = subst (λ (p : List ℕ). Same Unordered p (path_at nodes j)) (sym f.first)
      (subst (λ (q : List ℕ). Same Unordered (f.front ++ reverse one) q) (sym f.second)
      (same_after f.front (reverse one) (reverse other) (both_turned one other h)));
  end = numbered_state ss (state_number_at nodes i);
  runs = (z.each i lt).runs;
  other = subst (λ (n : ℕ). RunsInSystem y y.initial (path_at nodes j) (numbered_state ss n)) (sym end) (z.each j less).runs;
}
