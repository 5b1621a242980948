-- How prefixes of a tree are compared.
use Rattle.std.specs.Prelude.{◌≡◌, ℕ, List, ◌++◌, reverse}
use Rattle.prefix_tree.specs.Tree.{path_at}
use Rattle.prefix_tree.specs.declared.tree.Node.{Node}

-- the prefix at the place, then the operators, which stand the other way round, are the one before it, then the new ones
abbrev pub GoesBack : List Node → ℕ → List ℕ → ℕ → List ℕ → Type 0
GoesBack nodes at operators before new = path_at nodes at ++ reverse operators ≡ path_at nodes before ++ reverse new

-- Both prefixes begin alike, and go on by these operators, which stand the other way round.
pub record Fork (nodes : List Node) (i j : ℕ) (one other : List ℕ) : Type 0 where
  pub front : List ℕ
  pub first : path_at nodes i ≡ front ++ reverse one
  pub second : path_at nodes j ≡ front ++ reverse other
