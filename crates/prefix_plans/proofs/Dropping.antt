-- Entries from which no plan goes on are left out.
use Rattle.std.proofs.Common.{◌≡◌, ◌<◌, true, List, [], ◌∷◌, ◌++◌, length, slice_index_or, subst, arith}
use Rattle.std.specs.List.{AllByRecursion}
use Rattle.std.specs.List.Sorted.{IsPermutation}
use Rattle.std.proofs.lemmas.List.{append-nil, length-append}
use Rattle.std.proofs.lemmas.List.Sorted.{IsPermutation-refl, IsPermutation-trans, IsPermutation-append_right, IsPermutation-middle, length_permutation}
use Rattle.symk_task.specs.declared.parts.Mode.TheVariants.{TopK}
use Rattle.task_system.specs.System.{State, System}
use Rattle.lazy_plans.proofs.Traces.{stuck}
use Rattle.prefix_tree.specs.StateGraph.{numbered_state}
use Rattle.prefix_tree.specs.Tree.{IsTree, path_at, state_number_at}
use Rattle.prefix_tree.specs.declared.tree.Node.{Node}
use Rattle.prefix_tree.specs.declared.entry.Entry.{Entry}
use Rattle.prefix_tree.proofs.Entries.{first_is, first_in}
use Rattle.prefix_plans.specs.Leading.{GoesOnFrom, IsHopelessEntry, DropsHopeless, TellsGoingOn}
use Rattle.prefix_plans.proofs.Permuting.{permuted_each, right_each}

pub drops_none : (y : System) (nodes : List Node) (es : List Entry) → DropsHopeless y nodes es es
drops_none y nodes es = record { gone = []; hopeless = tt; rest = IsPermutation-refl es }

-- one more goes
pub drops_next : {y : System} {nodes : List Node} {old es : List Entry} (new : List Entry) (e : Entry)
    → DropsHopeless y nodes old es → IsHopelessEntry y nodes e → IsPermutation es (e ∷ new) → DropsHopeless y nodes old new
drops_next {y} {nodes} {old} {es} new e d lost perm = record {
  gone = e ∷ d.gone;
  hopeless = (lost, d.hopeless);
  rest = IsPermutation-trans old (d.gone ++ es) (e ∷ (d.gone ++ new)) d.rest
      (IsPermutation-trans (d.gone ++ es) (d.gone ++ e ∷ new) (e ∷ (d.gone ++ new))
      (IsPermutation-append_right d.gone es (e ∷ new) perm) (IsPermutation-middle d.gone e new));
}

-- what holds of each still does
pub drops_each : {y : System} {nodes : List Node} {old new : List Entry} (P : Entry → Type 0)
    → DropsHopeless y nodes old new → AllByRecursion P old → AllByRecursion P new
drops_each {y} {nodes} {old} {new} P d a = right_each P d.gone new (permuted_each P old (d.gone ++ new) d.rest a)

-- What is so in whatever order they stand, and stays so as the first of them goes, is so without them.
pub drops_on : {y : System} {nodes : List Node} {old new : List Entry} (P : List Entry → Type 0)
    → ((es same : List Entry) → IsPermutation es same → P es → P same)
    → ((e : Entry) (rest : List Entry) → IsHopelessEntry y nodes e → P (e ∷ rest) → P rest)
    → DropsHopeless y nodes old new → P old → P new
drops_on {y} {nodes} {old} {new} P moves goes d h = all_go d.gone d.hopeless (moves old (d.gone ++ new) d.rest h)
  where
    all_go : (gone : List Entry) → AllByRecursion (IsHopelessEntry y nodes) gone → P (gone ++ new) → P new
    all_go [] a k = k
    all_go (e ∷ gone) a k = all_go gone a.1 (goes e (gone ++ new) a.0 k)

-- the first entry of a queue
module _ (y : System) (ss : List State) (nodes : List Node) (z : IsTree y TopK ss nodes) (es : List Entry)
    (e : Entry) (some : 0 < length es) (first : e ≡ slice_index_or es 0 e) where
  -- a plan goes on from it
  pub tells_first : GoesOnFrom y (path_at nodes e.node) → TellsGoingOn y nodes es true
  tells_first on = (path_at nodes e.node, first_in nodes es e some first, on)

  -- none does, and it is taken out
  module _ (inside : AllByRecursion (λ (k : Entry). k.node < length nodes) es) (off : ¬ GoesOnFrom y (path_at nodes e.node)) where
    hopeless_first : IsHopelessEntry y nodes e
    hopeless_first =
        let here = first_is (λ (k : Entry). k.node < length nodes) es e some first inside in
        let n = z.each e.node here in
        let s = numbered_state ss (state_number_at nodes e.node) in
        record { inside = here; lost = stuck y TopK (path_at nodes e.node) s n.runs (λ q t run goal. off (s, n.runs, (q, t, run, goal))) }

    module _ (kids new : List Entry) (none : kids ≡ []) (perm : IsPermutation (es ++ kids) (e ∷ new)) where
      bare : IsPermutation (es ++ []) (e ∷ new)
      bare = subst (λ (l : List Entry). IsPermutation (es ++ l) (e ∷ new)) none perm

      pub drops_first : (old : List Entry) → DropsHopeless y nodes old es → DropsHopeless y nodes old new
      drops_first old d = drops_next new e d hopeless_first (subst (λ (l : List Entry). IsPermutation l (e ∷ new)) (append-nil es) bare)

      pub fewer : length new < length es
      fewer = omega (arith, length_permutation (es ++ []) (e ∷ new) bare, length-append es [])
