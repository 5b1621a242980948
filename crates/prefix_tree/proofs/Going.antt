-- Where the moves lead from the end of a prefix, and the children by them.
use Rattle.std.proofs.Common.{◌≡◌, ℕ, ◌+◌, ◌-◌, ◌<◌, ◌≤◌, List, [], ◌∷◌, ◌++◌, length, get_or, slice_index_or, refl, sym, ◌∙◌, ap, subst, arith}
use Rattle.std.specs.List.{Contains}
use Rattle.std.proofs.lemmas.List.{length-map, get_or-map}
use Rattle.space_api.proofs.Rising.{IsPast, past_gap, past_next}
use Rattle.symk_task.specs.declared.parts.Mode.{Mode}
use Rattle.task_system.specs.System.{State, System, Listed, Leads, RunsInSystem}
use Rattle.lazy_plans.specs.Queue.{IsAllowed, Good, Hopeless, ChildrenBelow}
use Rattle.lazy_plans.proofs.Growing.{children_past}
use Rattle.lazy_plans.proofs.Traces.{runs_join, one_end, good_child, no_move}
use Rattle.prefix_tree.specs.StateGraph.{numbered_state, move_operators, IsGraphMove, AreGraphMoves}
use Rattle.prefix_tree.specs.Tree.{IsTree, path_at, end_at}
use Rattle.prefix_tree.specs.declared.state_graph.Move.{Move}
use Rattle.prefix_tree.specs.declared.tree.Node.{Node}
use Rattle.prefix_tree.proofs.Passing.{number_is}

-- the moves one by one
pub op_at : (moves : List Move) (d : Move) (i : ℕ) → i < length moves → (get_or moves i d).op ≡ get_or (move_operators moves) i 0
op_at moves d i lt = sym (get_or-map (λ (z : Move). z.op) moves i d 0 lt)

pub ops_few : (moves : List Move) (i : ℕ) → i < length moves → i < length (move_operators moves)
ops_few moves i lt = omega (arith, lt, length-map moves (λ (z : Move). z.op))

pub ops_many : (moves : List Move) (i : ℕ) → length moves ≤ i → length (move_operators moves) ≤ i
ops_many moves i le = omega (arith, le, length-map moves (λ (z : Move). z.op))

module _ (y : System) (ss : List State) (s : State) (moves : List Move) (all : AreGraphMoves y ss s moves) (i : ℕ) (lt : i < length moves) where
  pub op_known : get_or (move_operators moves) i 0 < y.operators
  op_known =
      let d : Move = record { op = 0; to = 0 } in
      subst (λ (k : ℕ). k < y.operators) (op_at moves d i lt) (all.each i d lt).leads.number

  pub op_past : IsPast (move_operators moves) (i + 1) (get_or (move_operators moves) i 0 + 1)
  op_past = past_next (move_operators moves) all.rising i (ops_few moves i lt)

module _ (y : System) (m : Mode) (ss : List State) (nodes : List Node) (i : ℕ) (z : IsTree y m ss nodes) (lt : i < length nodes) where
  -- the state where the prefix ends
  module _ (n : Node) (is : n ≡ slice_index_or nodes i n) where
    pub end_within : n.state < length ss
    end_within = omega (arith, number_is nodes i n lt is, (z.each i lt).within)

    pub end_run : (s : State) → s ≡ numbered_state ss n.state → RunsInSystem y y.initial (path_at nodes i) s
    end_run s at = subst (λ (x : State). RunsInSystem y y.initial (path_at nodes i) x)
        (sym (at ∙ ap (numbered_state ss) (number_is nodes i n lt is))) (z.each i lt).runs

  -- the state to which a move leads
  module _ (move : Move) (step : IsGraphMove y ss (end_at ss nodes i) move) where
    pub next_run : RunsInSystem y y.initial (path_at nodes i ++ move.op ∷ []) (numbered_state ss move.to)
    next_run = runs_join y (path_at nodes i) (move.op ∷ []) y.initial (end_at ss nodes i) (numbered_state ss move.to)
        (z.each i lt).runs (numbered_state ss move.to, step.leads, refl)

    pub from_end : Leads y move.op (z.each i lt).good.end (numbered_state ss move.to)
    from_end = subst (λ (x : State). Leads y move.op x (numbered_state ss move.to))
        (one_end y (path_at nodes i) y.initial (end_at ss nodes i) (z.each i lt).good.end (z.each i lt).runs
        (z.each i lt).good.runs) step.leads

    pub next_good : Listed y.states (numbered_state ss move.to) → IsAllowed y m (path_at nodes i ++ move.op ∷ []) → Good y m (path_at nodes i ++ move.op ∷ [])
    next_good listed allowed = good_child y m (path_at nodes i) move.op (numbered_state ss move.to) (z.each i lt).good from_end listed allowed

  -- of an operator that is no move there is no child
  module _ (moves : List Move) (all : AreGraphMoves y ss (end_at ss nodes i) moves) where
    lost : (op : ℕ) → ¬ Contains (move_operators moves) op → Hopeless y m (path_at nodes i ++ op ∷ [])
    lost op missing = no_move y m (path_at nodes i) op (end_at ss nodes i) (z.each i lt).runs (λ t leads. missing (all.all op t leads))

    -- the children by the operators below n are those by the operators below x, where none between is listed
    pub skip_to : (kids : List (List ℕ)) (k n x : ℕ) → IsPast (move_operators moves) k n → n ≤ x
        → ((j : ℕ) → k ≤ j → j < length (move_operators moves) → x ≤ get_or (move_operators moves) j 0)
        → ChildrenBelow y m (path_at nodes i) n kids → ChildrenBelow y m (path_at nodes i) x kids
    skip_to kids k n x past le before c =
        let whole : n + (x - n) ≡ x = omega (arith, le) in
        subst (λ (w : ℕ). ChildrenBelow y m (path_at nodes i) w kids) whole
        (children_past y m (path_at nodes i) n (x - n) kids c
        (λ op ge less. lost op (past_gap (move_operators moves) k n op past ge
        (λ j at in_list. let b = before j at in_list in omega (arith, less, le, b)))))
