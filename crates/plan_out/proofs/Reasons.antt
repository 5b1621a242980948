-- Which reasons are not true of a block.
use Rattle.std.proofs.Common.{◌≡◌, ℕ, ◌+◌, ◌-◌, ◌<◌, List, Option, Some, None, inl, inr, refl, sym, subst, ◌∙◌, arith}
use Rattle.std.specs.Prelude.{All, IsSomeAnd, slice_get}
use Rattle.std.proofs.lemmas.Bool.{cases_eq}
use Rattle.std.proofs.lemmas.Option.{slice_get_within, get_or_from_slice_get}
use Rattle.symk_task.specs.declared.parts.Mode.{Mode}
use Rattle.symk_task.specs.declared.parts.TaskParts.{TaskParts}
use Rattle.symk_task.specs.Fits.{Fits}
use Rattle.symk_task.specs.Plans.{IsPlan, Same, cost_of}
use Rattle.task_run.specs.Verdicts.{AreOperators, Stops, Misses}
use Rattle.plan_out.specs.declared.blocks.ReadBlock.{ReadBlock}
use Rattle.plan_out.specs.declared.check.Why.{Why}
use Rattle.plan_out.specs.declared.check.Why.TheVariants.{NoSuchOperator, WrongName, StopsAt, MissesGoal, WrongCost, Repeats, Cheaper, Loops}
use Rattle.plan_out.specs.Fails.{AreNamed, IsCostLine, IsCheaper, IsFirstSame, Says, rank}
use Rattle.plan_out.specs.Checks.{Passes, WalksBack}
use Rattle.plan_out.proofs.OneRun.{plan_no_stop, plan_no_miss, no_loop}

-- none of the first reasons is true of the block
abbrev pub IsClear : TaskParts → Mode → List ReadBlock → ReadBlock → ℕ → Type 0
IsClear task mode blocks b n = (other : Why) → rank other < n → ¬ Says task mode blocks b other

-- one reason more
pub next : (task : TaskParts) (mode : Mode) (blocks : List ReadBlock) (b : ReadBlock) (n m : ℕ) → m ≡ n + 1
    → IsClear task mode blocks b n → ((other : Why) → rank other ≡ n → ¬ Says task mode blocks b other)
    → IsClear task mode blocks b m
next task mode blocks b n m is clear here other lt says = elim (cases_eq (rank other) n) [
  | inl e ↦ here other e says
  | inr ne ↦ clear other (omega (arith, lt, ne, is)) says
]

pub clear_operators : (task : TaskParts) (mode : Mode) (blocks : List ReadBlock) (b : ReadBlock) → AreOperators task b.ops → IsClear task mode blocks b 1
clear_operators task mode blocks b ops (NoSuchOperator step) lt says =
    let large = says.1 in let low = ops (step - 1) 0 large.within in let high = large.here in omega (arith, low, high)
clear_operators task mode blocks b ops other lt says = omega (arith, lt)

pub clear_names : (task : TaskParts) (mode : Mode) (blocks : List ReadBlock) (b : ReadBlock)
    → IsClear task mode blocks b 1 → AreNamed task b → IsClear task mode blocks b 2
clear_names task mode blocks b clear names = next task mode blocks b 1 2 refl clear here
  where
    here : (other : Why) → rank other ≡ 1 → ¬ Says task mode blocks b other
    here (WrongName step) e says = (let m = says.1 in m.here (names (step - 1) m.within))
    here other e says = omega (arith, e)

pub clear_steps : (task : TaskParts) (mode : Mode) (blocks : List ReadBlock) (b : ReadBlock)
    → IsClear task mode blocks b 2 → ((i : ℕ) → ¬ Stops task b.ops i) → IsClear task mode blocks b 3
clear_steps task mode blocks b clear never = next task mode blocks b 2 3 refl clear here
  where
    here : (other : Why) → rank other ≡ 2 → ¬ Says task mode blocks b other
    here (StopsAt step) e says = never (step - 1) says.1
    here other e says = omega (arith, e)

pub clear_goal : (task : TaskParts) (mode : Mode) (blocks : List ReadBlock) (b : ReadBlock)
    → IsClear task mode blocks b 3 → ¬ Misses task b.ops → IsClear task mode blocks b 4
clear_goal task mode blocks b clear never = next task mode blocks b 3 4 refl clear here
  where
    here : (other : Why) → rank other ≡ 3 → ¬ Says task mode blocks b other
    here MissesGoal e says = never says
    here other e says = omega (arith, e)

pub clear_cost : (task : TaskParts) (mode : Mode) (blocks : List ReadBlock) (b : ReadBlock)
    → IsClear task mode blocks b 4 → IsCostLine task b (cost_of task b.ops) → IsClear task mode blocks b 5
clear_cost task mode blocks b clear line = next task mode blocks b 4 5 refl clear here
  where
    here : (other : Why) → rank other ≡ 4 → ¬ Says task mode blocks b other
    here (WrongCost cost) e says = says.1 (line.0 ∙ sym says.0, line.1)
    here other e says = omega (arith, e)

none_same : (mode : Mode) (blocks : List ReadBlock) (p : List ℕ) (i : ℕ) → All (λ b. ¬ Same mode b.ops p) blocks → ¬ IsFirstSame mode blocks p i
none_same mode blocks p i none first = at (slice_get blocks i) refl first.here
  where
    at : (o : Option ReadBlock) → slice_get blocks i ≡ o → ¬ IsSomeAnd o (λ b. Same mode b.ops p)
    at None e h = h
    at (Some b) e h = none i b (slice_get_within blocks i b e) (subst (λ (x : ReadBlock). Same mode x.ops p) (sym (get_or_from_slice_get blocks i b b e)) h)

pub clear_repeats : (task : TaskParts) (mode : Mode) (blocks : List ReadBlock) (b : ReadBlock)
    → IsClear task mode blocks b 5 → All (λ earlier. ¬ Same mode earlier.ops b.ops) blocks
    → IsClear task mode blocks b 6
clear_repeats task mode blocks b clear none = next task mode blocks b 5 6 refl clear here
  where
    here : (other : Why) → rank other ≡ 5 → ¬ Says task mode blocks b other
    here (Repeats earlier) e says = none_same mode blocks b.ops (earlier - 1) none says.1
    here other e says = omega (arith, e)

pub clear_rising : (task : TaskParts) (mode : Mode) (blocks : List ReadBlock) (b : ReadBlock)
    → IsClear task mode blocks b 6 → ¬ IsCheaper blocks b → IsClear task mode blocks b 7
clear_rising task mode blocks b clear never = next task mode blocks b 6 7 refl clear here
  where
    here : (other : Why) → rank other ≡ 6 → ¬ Says task mode blocks b other
    here Cheaper e says = never says
    here other e says = omega (arith, e)

clear_back : (task : TaskParts) (mode : Mode) (blocks : List ReadBlock) (b : ReadBlock) → Fits task
    → IsClear task mode blocks b 7 → WalksBack task mode b.ops None → IsClear task mode blocks b 8
clear_back task mode blocks b fits clear back = next task mode blocks b 7 8 refl clear here
  where
    here : (other : Why) → rank other ≡ 7 → ¬ Says task mode blocks b other
    here (Loops step) e says = no_loop task mode b.ops fits back step says
    here other e says = omega (arith, e)

-- nothing is said of the spelling, and the operators make a plan
pub clear_plan : (task : TaskParts) (mode : Mode) (blocks : List ReadBlock) (b : ReadBlock) → Fits task
    → AreOperators task b.ops × AreNamed task b → IsPlan task b.ops → IsClear task mode blocks b 4
clear_plan task mode blocks b fits (ops, names) plan =
    clear_goal task mode blocks b
    (clear_steps task mode blocks b (clear_names task mode blocks b (clear_operators task mode blocks b ops) names) (plan_no_stop task b.ops fits plan))
    (plan_no_miss task b.ops fits plan)

pub below_all : (why : Why) → rank why < 8
below_all (NoSuchOperator step) = omega arith
below_all (WrongName step) = omega arith
below_all (StopsAt step) = omega arith
below_all MissesGoal = omega arith
below_all (WrongCost cost) = omega arith
below_all (Repeats earlier) = omega arith
below_all Cheaper = omega arith
below_all (Loops step) = omega arith

-- no reason is true of a block that passes
pub passes_clear : (task : TaskParts) (mode : Mode) (blocks : List ReadBlock) (b : ReadBlock) → Fits task
    → Passes task mode blocks b → (why : Why) → ¬ Says task mode blocks b why
passes_clear task mode blocks b fits h why says =
    clear_back task mode blocks b fits
    (clear_rising task mode blocks b
    (clear_repeats task mode blocks b (clear_cost task mode blocks b
    (clear_plan task mode blocks b fits (h.operators, h.names) h.plan) h.cost) h.once) h.rising)
    h.back why (below_all why) says
