-- Each operator costs 1 exactly where the test says so.
use Rattle.std.proofs.Common.{◌≡◌, ℕ, zero, suc, ◌<◌, Bool, true, false, cond, List, [], ◌∷◌, length, refl, sym, arith}
use Rattle.std.specs.Prelude.{slice_get, ◌==◌, ◌||◌, ◌&&◌, ◌↔◌}
use Rattle.std.specs.Option.{option_map_or}
use Rattle.std.specs.List.{list_all}
use Rattle.std.proofs.lemmas.Bool.{eqb-true, eq-eqb, false≢true}
use Rattle.symk_task.specs.declared.parts.Operator.{Operator}
use Rattle.symk_task.specs.declared.parts.TaskParts.{TaskParts}
use Rattle.symk_task.specs.Plans.{IsUnit}
use Rattle.plan_out.specs.Texts.{is_unit}

abbrev price : List Operator → ℕ → ℕ
price operators op = option_map_or (λ operator. operator.cost) (slice_get operators op) 0

abbrev ones : List Operator → Bool
ones operators = list_all (λ operator. operator.cost == 1) operators

both : (a b : Bool) → (a && b) ≡ true → (a ≡ true) × (b ≡ true)
both true b h = (refl, h)
both false b h = absurd (false≢true h)

join : (a b : Bool) → a ≡ true → b ≡ true → (a && b) ≡ true
join true b h k = k
join false b h k = absurd (false≢true h)

each_one : (operators : List Operator) → ones operators ≡ true → (op : ℕ) → op < length operators → price operators op ≡ 1
each_one [] h op lt = absurd (omega arith)
each_one (o ∷ os) h zero lt = eqb-true o.cost 1 (both (o.cost == 1) (ones os) h).0
each_one (o ∷ os) h (suc op) lt = each_one os (both (o.cost == 1) (ones os) h).1 op (omega arith)

all_one : (operators : List Operator) → ((op : ℕ) → op < length operators → price operators op ≡ 1) → ones operators ≡ true
all_one [] h = refl
all_one (o ∷ os) h = join (o.cost == 1) (ones os) (eq-eqb o.cost 1 (h 0 (omega arith))) (all_one os (λ op lt. h (suc op) (omega arith)))

by_metric : (m : Bool) (operators : List Operator) → ((m || ones operators) ≡ true) ↔ ((op : ℕ) → op < length operators → cond m 1 (price operators op) ≡ 1)
by_metric true operators = ((λ h op lt. refl), (λ h. refl))
by_metric false operators = (each_one operators, all_one operators)

pub unit_law : (task : TaskParts) → (is_unit task ≡ true) ↔ IsUnit task
unfolding is_unit
unit_law task = by_metric (task.metric == 0) task.operators

pub same_test : (a b : Bool) (P : Type 0) → (a ≡ true) ↔ P → (b ≡ true) ↔ P → a ≡ b
same_test true true P f g = refl
same_test true false P f g = sym (g.1 (f.0 refl))
same_test false true P f g = f.1 (g.0 refl)
same_test false false P f g = refl
