-- When a plan text is refused.
use Rattle.std.specs.Prelude.{ℕ, List}
use Rattle.line_grammar.specs.Rows.{Offends}
use Rattle.plan_out.specs.declared.read.PlansFault.{PlansFault}
use Rattle.plan_out.specs.declared.read.PlansFault.TheVariants.{Offence, Memory}
use Rattle.plan_out.specs.Plans.{IsPlansOf}

-- the fault names the first line at which no plan text can go on so
abbrev pub PlansRefusedAt : List (List ℕ) → PlansFault → Type 0
PlansRefusedAt lines (Offence line) = Offends IsPlansOf lines line
PlansRefusedAt lines Memory = Unit {0}
