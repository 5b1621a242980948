-- The order of cuts as a test, which of them are not yet drawn, and the plans above a cost.
use Rattle.std.specs.Prelude.{ℕ, ◌<◌, Bool, true, false, ◌&&◌, ◌||◌, eqb, ltb, List, Option, Some, None}
use Rattle.task_system.specs.System.{System, IsSystemPlan, cost_in_system}
use Rattle.plan_cuts.specs.declared.Cut.{Cut}
use Rattle.plan_cuts.specs.declared.Cut.TheVariants.{Whole, Cross}

-- Whole first, then by what is left after the crossing operator, then by the operator
abbrev pub precedes : Cut → Cut → Bool
precedes Whole Whole = false
precedes Whole (Cross x op y) = true
precedes (Cross x op y) Whole = false
precedes (Cross x op y) (Cross x2 op2 y2) = ltb y y2 || (eqb y y2 && ltb op op2)

-- the cuts after this one
abbrev pub later : Option Cut → Cut → Bool
later None c = true
later (Some a) c = precedes a c

-- the cuts that are not drawn, if any is left
abbrev pub undrawn : Bool → Option Cut → Cut → Bool
undrawn left after c = left && later after c

-- plans dearer than what is listed, or all
abbrev pub Above : System → Option ℕ → List ℕ → Type 0
Above y None p = IsSystemPlan y p
Above y (Some cost) p = IsSystemPlan y p × (cost < cost_in_system y p)
