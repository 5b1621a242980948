-- Where a plan is cut, b being what the backward side is known below.
use Rattle.std.specs.Prelude.{ℕ, ◌+◌, Bool, true, false, ◌&&◌, eqb, leb, cond, List, [], ◌∷◌}
use Rattle.task_system.specs.System.{System, cost_in_system}
pub use Rattle.plan_cuts.specs.Cuts.{IsCut}
use Rattle.plan_cuts.specs.declared.Cut.{Cut}
use Rattle.plan_cuts.specs.declared.Cut.TheVariants.{Whole, Cross}

-- the plan's cut as a function; d is the cost of what stands before
abbrev pub crossing : System → ℕ → ℕ → List ℕ → Cut
crossing y b d [] = Whole
crossing y b d (op ∷ p) = cond (leb b (cost_in_system y p)) (crossing y b (d + y.cost op) p) (Cross d op (cost_in_system y p))

abbrev pub cut_of : System → ℕ → List ℕ → Cut
cut_of y b p = cond (leb b (cost_in_system y p)) (crossing y b 0 p) Whole

abbrev pub same_cut : Cut → Cut → Bool
same_cut Whole Whole = true
same_cut Whole (Cross d op r) = false
same_cut (Cross d op r) Whole = false
same_cut (Cross d op r) (Cross e k q) = eqb op k && (eqb r q && eqb d e)
