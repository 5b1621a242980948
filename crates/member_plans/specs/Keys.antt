-- What tells prefixes apart that don't join.
use Rattle.std.specs.Prelude.{◌≡◌, ℕ, List, ◌∷◌}
use Rattle.std.specs.List.Sorted.{IsPermutation, IsNonDecreasing}
use Rattle.prefix_tree.specs.Tree.{path_at, state_number_at}
use Rattle.prefix_tree.specs.declared.tree.Node.{Node}

-- the number of the state where the prefix at this place ends, and its operators in rising order
pub record IsKeyAt (nodes : List Node) (i : ℕ) (key : List ℕ) : Type 0 where
  pub sorted : List ℕ
  pub is : key ≡ state_number_at nodes i ∷ sorted
  pub permutation : IsPermutation (path_at nodes i) sorted
  pub rising : IsNonDecreasing sorted
