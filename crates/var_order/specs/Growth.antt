-- A layout with one more variable.
use Rattle.std.specs.Prelude.{◌≡◌, ℕ, [], ◌∷◌, ◌++◌, Some, None, IsSome, length, replicate}
use Rattle.symk_task.specs.declared.parts.Variable.{Variable}
use Rattle.symk_task.specs.Variables.{range, width}
use Rattle.var_order.specs.Layout.{Layout}

-- with a base variable of so many values
abbrev pub with_base : Layout → ℕ → Layout
with_base o values = record {
  slots = o.slots ++ Some (length o.blocks) ∷ [];
  blocks = o.blocks ++ record { first = length o.owners; width = width values; values = values } ∷ [];
  owners = o.owners ++ replicate (width values) (length o.blocks);
}

-- with a derived variable
abbrev pub with_derived : Layout → Layout
with_derived o = record { slots = o.slots ++ None ∷ []; blocks = o.blocks; owners = o.owners }

-- the later layout has the variable too
pub record ExtendsLayout (o : Layout) (v : Variable) (more : Layout) : Type 0 where
  pub base : v.layer ≡ None → more ≡ with_base o (range v)
  pub derived : IsSome v.layer → more ≡ with_derived o
