-- By an operator of which there is no move no loopless plan goes on: the children by the moves, one after the other.
use Rattle.std.proofs.Common.{ℕ, ◌+◌, ◌≤◌, ◌<◌, length, get_or, List, [], subst, arith}
use Rattle.space_api.proofs.Rising.{IsPast, past_none, never_falls}
use Rattle.symk_task.specs.declared.parts.Mode.TheVariants.{Loopless}
use Rattle.task_system.specs.System.{State, System}
use Rattle.prefix_tree.specs.StateGraph.{move_operators, AreGraphMoves}
use Rattle.prefix_tree.specs.Tree.{IsTree, GrowsTree, path_at, end_at}
use Rattle.prefix_tree.specs.Entries.{prefixes}
use Rattle.prefix_tree.specs.declared.state_graph.Move.{Move}
use Rattle.prefix_tree.specs.declared.tree.Node.{Node}
use Rattle.prefix_tree.specs.declared.entry.Entry.{Entry}
use Rattle.prefix_tree.proofs.Going as going
use Rattle.loopless.specs.Children.{AddsLooplessChild, AreChildren}
use Rattle.loopless.proofs.Growing.{children_none, children_like, children_next}

-- all moves from where the prefix at place i ends
pub record AllFrom (y : System) (ss : List State) (nodes : List Node) (i : ℕ) (moves : List Move) : Type 0 where
  pub tree : IsTree y Loopless ss nodes
  pub inside : i < length nodes
  pub all : AreGraphMoves y ss (end_at ss nodes i) moves

-- none of the numbers lies between m and x: those before place k are below m, and from there on none is below x
pub record AreSkipped (xs : List ℕ) (k m x : ℕ) : Type 0 where
  pub past : IsPast xs k m
  pub low : m ≤ x
  pub none : (j : ℕ) → k ≤ j → j < length xs → x ≤ get_or xs j 0

-- the children by the operators below m are those by the operators below x, where none between is listed
pub skip_to : {y : System} {ss : List State} {nodes : List Node} {i : ℕ} {moves : List Move} {k m x : ℕ} (c : List Node) (kids : List Entry) →
    AllFrom y ss nodes i moves → AreSkipped (move_operators moves) k m x → AreChildren y c (path_at nodes i) m kids → AreChildren y c (path_at nodes i) x kids
skip_to {y} {ss} {nodes} {i} {moves} {k} {m} {x} c kids z s w = record {
  each = w.each;
  longer = w.longer;
  few = omega (arith, w.few, s.low);
  counted = going.skip_to y Loopless ss nodes i z.tree z.inside moves z.all (prefixes c kids) k m x s.past s.low s.none w.counted;
}

-- these are the children of e by the moves before place k
abbrev pub HasAdded : System → List ℕ → List Move → List Node → ℕ → List Entry → Type 0
HasAdded y e moves c k kids = (m : ℕ) × IsPast (move_operators moves) k m × (m ≤ y.operators) × AreChildren y c e m kids

module _ {y : System} {ss : List State} {nodes : List Node} {i : ℕ} {moves : List Move} (z : AllFrom y ss nodes i moves) where
  pub added_none : HasAdded y (path_at nodes i) moves nodes 0 []
  added_none = (0, past_none (move_operators moves), omega arith, children_none y nodes (path_at nodes i))

  -- one move on
  pub added_next : {b c : List Node} (old new : List Entry) (k : ℕ) (d : Move) → k < length moves → GrowsTree y Loopless ss nodes b
      → GrowsTree y Loopless ss b c → HasAdded y (path_at nodes i) moves b k old
      → AddsLooplessChild y c (path_at b i) (get_or moves k d).op old new → HasAdded y (path_at nodes i) moves c (k + 1) new
  added_next {b} {c} old new k d lt grown more h added =
      let e = path_at nodes i in
      let op = get_or (move_operators moves) k 0 in
      let known = going.op_known y ss (end_at ss nodes i) moves z.all k lt in
      let skipped : AreSkipped (move_operators moves) k h.0 op = record {
        past = h.1;
        low = h.1.above k (omega arith) (going.ops_few moves k lt);
        none = never_falls (move_operators moves) z.all.rising k;
      } in
      let by = subst (λ (x : ℕ). AddsLooplessChild y c e x old new) (going.op_at moves d k lt)
      (subst (λ (p : List ℕ). AddsLooplessChild y c p (get_or moves k d).op old new) (grown.paths i z.inside) added) in (
        op + 1,
        going.op_past y ss (end_at ss nodes i) moves z.all k lt,
        omega (arith, known),
        children_next y c e op old new (children_like y b c e op old more.longer more.paths (skip_to b old z skipped h.3)) by,
      )

  -- all children, after the last move
  pub added_all : (c : List Node) (kids : List Entry) (k : ℕ) → length moves ≤ k → HasAdded y (path_at nodes i) moves c k kids
      → AreChildren y c (path_at nodes i) y.operators kids
  added_all c kids k many h =
      let few = going.ops_many moves k many in
      let skipped : AreSkipped (move_operators moves) k h.0 y.operators = record {
        past = h.1;
        low = h.2;
        none = λ j ge lt. absurd (omega (arith, ge, lt, few));
      } in
      skip_to c kids z skipped h.3
