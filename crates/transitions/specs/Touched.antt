-- Which places an operator touches.
use Rattle.std.specs.Prelude.{ℕ, Bool, false, ◌==◌, List, [], slice_get}
use Rattle.std.specs.Option.{option_map_or}
use Rattle.std.specs.List.{list_any, filter, range_with_len}
use Rattle.symk_task.specs.declared.parts.Effect.{Effect}
use Rattle.symk_task.specs.declared.parts.Operator.{Operator}
use Rattle.symk_task.specs.declared.parts.TaskParts.{TaskParts}
use Rattle.var_order.specs.Layout.{Layout, slot_of, owner_at, bits}

-- the effect is on the variable whose value this is in a state
abbrev pub is_on : Layout → ℕ → Effect → Bool
is_on o slot effect = option_map_or (λ k. k == slot) (slot_of o effect.var) false

-- one of the effects is on the variable whose bit stands at the place
abbrev pub is_touched : Layout → List Effect → ℕ → Bool
is_touched o effects p = list_any (is_on o (owner_at o p)) effects

-- the places that the effects touch, rising
abbrev pub touched_places : Layout → List Effect → List ℕ
touched_places o effects = filter (is_touched o effects) (range_with_len 0 (bits o))

-- the effects of the operator of this number
abbrev pub effects_of : TaskParts → ℕ → List Effect
effects_of task a = option_map_or (λ (operator : Operator). operator.effects) (slice_get task.operators a) []
