-- A prefix that is longer by an operator.
use Rattle.std.proofs.Common.{◌≡◌, ℕ, ◌<◌, ◌+◌, IsTrue, List, [], ◌∷◌, ◌++◌, length, sym, ap, subst, arith}
use Rattle.std.specs.Bool.{Decides}
use Rattle.std.specs.List.{Contains}
use Rattle.symk_task.specs.declared.parts.Mode.TheVariants.{TopK}
use Rattle.task_system.specs.System.{State, Listed, RunsInSystem, cost_in_system}
use Rattle.run_graph.specs.Reached.{ReachedAt}
use Rattle.space_api.specs.View.{View}
use Rattle.cost_to_go.specs.declared.search.CostToGo.{CostToGo}
use Rattle.lazy_plans.specs.Queue.{Hopeless}
use Rattle.lazy_plans.proofs.Splits.{cost_join}
use Rattle.lazy_plans.proofs.Traces.{one_end, stuck, no_move}
use Rattle.prefix_tree.specs.StateGraph.{numbered_state, move_operators, IsGraphMove, AreGraphMoves}
use Rattle.prefix_tree.specs.Tree.{IsTree, path_at, end_at}
use Rattle.prefix_tree.specs.declared.state_graph.Move.{Move}
use Rattle.prefix_tree.specs.declared.tree.Node.{Node}
use Rattle.prefix_tree.specs.declared.entry.Entry.{Entry}
use Rattle.prefix_tree.proofs.Going.{next_run, next_good}
use Rattle.cost_to_go.specs.Telling.{CostsAtLeast, LeadsNowhere}
use Rattle.prefix_plans.specs.Left.{PrefixEndsAtLeast, IsKnown}
use Rattle.prefix_plans.specs.Reach.{IsLongerEnd}
use Rattle.prefix_plans.specs.EndChildren.{IsEndEntry}
use Rattle.prefix_plans.specs.declared.reach.Reached.{Reached}

module _ {Set : Type 0} (v : View Set) (f : CostToGo Set) (ss : List State) (nodes : List Node) (i : ℕ)
    (z : IsTree v.system TopK ss nodes) (lt : i < length nodes) where
  -- the state to which a move leads from the end of a prefix
  module _ (m : Move) (step : IsGraphMove v.system ss (end_at ss nodes i) m) where
    run : RunsInSystem v.system v.system.initial (path_at nodes i ++ m.op ∷ []) (numbered_state ss m.to)
    run = next_run v.system TopK ss nodes i z lt m step

    pub next_least : (low : ℕ) → PrefixEndsAtLeast v.system (path_at nodes i ++ m.op ∷ []) low → CostsAtLeast v.system (numbered_state ss m.to) low
    next_least low h = h (numbered_state ss m.to) run

    pub nowhere_lost : LeadsNowhere v.system (numbered_state ss m.to) → Hopeless v.system TopK (path_at nodes i ++ m.op ∷ [])
    nowhere_lost none = stuck v.system TopK (path_at nodes i ++ m.op ∷ []) (numbered_state ss m.to) run none

    -- it costs what the prefix and the operator do
    pub next_cost : (e : Entry) → IsEndEntry v f nodes e → e.node ≡ i → (c : ℕ) → c ≡ e.cost + v.system.cost m.op
        → c ≡ cost_in_system v.system (path_at nodes i ++ m.op ∷ [])
    next_cost e entry here c is = (let path = ap (λ (j : ℕ). cost_in_system v.system (path_at nodes j)) here in
        let join = cost_join v.system (path_at nodes i) (m.op ∷ []) in omega (arith, is, entry.cost, path, join))

    pub next_at : (c : ℕ) → c ≡ cost_in_system v.system (path_at nodes i ++ m.op ∷ []) → ReachedAt v.system c (numbered_state ss m.to)
    next_at c is = (path_at nodes i ++ m.op ∷ [], run, sym is)

    pub longer : Listed v.system.states (numbered_state ss m.to) → (r : Reached)
        → r.cost ≡ cost_in_system v.system (path_at nodes i ++ m.op ∷ []) → IsKnown v f r.cost (numbered_state ss m.to) r.left
        → Decides r.at_goal (IsTrue (v.system.goal (numbered_state ss m.to)))
        → IsLongerEnd v f (path_at nodes i ++ m.op ∷ []) r
    longer listed r cost known goal =
        let good = next_good v.system TopK ss nodes i z lt m step listed tt in
        let same : numbered_state ss m.to ≡ good.end = one_end v.system
        (path_at nodes i ++ m.op ∷ []) v.system.initial (numbered_state ss m.to) good.end run good.runs in
        record {
          good = good;
          cost = cost;
          left = subst (λ (x : State). IsKnown v f r.cost x r.left) same known;
          goal = subst (λ (x : State). Decides r.at_goal (IsTrue (v.system.goal x))) same goal;
        }

  -- of an operator that is no move there is no child
  module _ (moves : List Move) (all : AreGraphMoves v.system ss (end_at ss nodes i) moves) where
    pub lost : (op : ℕ) → ¬ Contains (move_operators moves) op → Hopeless v.system TopK (path_at nodes i ++ op ∷ [])
    lost op missing = no_move v.system TopK (path_at nodes i) op (end_at ss nodes i) (z.each i lt).runs (λ t leads. missing (all.all op t leads))
