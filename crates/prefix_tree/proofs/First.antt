-- The tree and the queue of the empty prefix alone.
use Rattle.std.proofs.Common.{◌≡◌, ℕ, ◌<◌, Bool, IsTrue, inl, List, [], ◌∷◌, length, refl, sym, ap, subst, arith}
use Rattle.std.specs.Bool.{Decides}
use Rattle.std.specs.List.{AllByRecursion}
use Rattle.std.specs.List.Sorted.{IsPermutation}
use Rattle.std.proofs.lemmas.List.Sorted.{length_permutation, All-permutation}
use Rattle.std.proofs.lemmas.List.Elements.{recursion_from_All, All-from_recursion}
use Rattle.symk_task.specs.declared.parts.Mode.{Mode}
use Rattle.task_system.specs.System.{System, Listed, IsSystemPlan}
use Rattle.lazy_plans.specs.Queue.{Good}
use Rattle.lazy_plans.proofs.Traces.{good_first, plan_by}
use Rattle.prefix_tree.specs.StateGraph.{states_of, numbered_state, IsStateGraph}
use Rattle.prefix_tree.specs.declared.state_graph.StateGraph.{StateGraph}
use Rattle.prefix_tree.specs.Tree.{IsTree, IsNode, path_at, state_number_at}
use Rattle.prefix_tree.specs.declared.tree.Node.{Node}
use Rattle.prefix_tree.specs.declared.entry.Entry.{Entry}

-- a permutation of one element is it
pub only : (e : Entry) (es : List Entry) → IsPermutation (e ∷ []) es → es ≡ e ∷ []
only e [] p = absurd (omega (arith, length_permutation (e ∷ []) [] p))
only e (x ∷ []) p =
    let one : AllByRecursion (λ (k : Entry). k ≡ e) (x ∷ []) =
    recursion_from_All (λ (k : Entry). k ≡ e) (x ∷ [])
    (All-permutation (λ (k : Entry). k ≡ e) (e ∷ []) (x ∷ []) p
    (All-from_recursion (λ (k : Entry). k ≡ e) (e ∷ []) (refl, tt))) in
    ap (λ (k : Entry). k ∷ []) one.0
only e (x ∷ y ∷ es) p = absurd (omega (arith, length_permutation (e ∷ []) (x ∷ y ∷ es) p))

pub first_path : (n : Node) (i : ℕ) → i ≡ 0 → path_at (n ∷ []) i ≡ []
first_path n i z = ap (path_at (n ∷ [])) z

-- its node ends in the initial state
module _ (y : System) (mode : Mode) (m : StateGraph) (n : Node) (graph : IsStateGraph y m) (within : n.state < length (states_of m))
    (starts : numbered_state (states_of m) n.state ≡ y.initial) where
  good : Good y mode []
  good = good_first y mode (subst (Listed y.states) starts (graph.listed n.state within))

  node : IsNode y mode (states_of m) 0 [] n.state
  node = record { good = good; within = within; runs = sym starts; deep = omega arith }

  pub first_tree : IsTree y mode (states_of m) (n ∷ [])
  first_tree = record {
    some = omega arith;
    linked = λ i d lt. inl (omega (arith, lt), first_path n i (omega (arith, lt)));
    each = λ i lt. let z : i ≡ 0 = omega (arith, lt) in
        subst (λ (j : ℕ). IsNode y mode (states_of m) j (path_at (n ∷ []) j) (state_number_at (n ∷ []) j)) (sym z) node;
  }

-- whether the goal holds in the initial state tells whether it is a plan
pub first_plan : (y : System) (n : Node) (i : ℕ) (at_goal : Bool) → i ≡ 0 → Decides at_goal (IsTrue (y.goal y.initial))
    → Decides at_goal (IsSystemPlan y (path_at (n ∷ []) i))
first_plan y n i at_goal z goal = subst (λ (p : List ℕ). Decides at_goal (IsSystemPlan y p)) (sym (first_path n i z))
    (plan_by y [] y.initial refl at_goal goal)
