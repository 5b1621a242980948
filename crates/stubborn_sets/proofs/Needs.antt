-- What members need stays marked as marks grow.
use Rattle.std.proofs.Common.{◌≡◌, ℕ, ◌<◌, ◌⊎◌, inl, inr, Bool, List, length, get_or, Option, Some, None, IsSomeAnd, slice_get, sym, ap, subst, ◌∙◌, arith}
use Rattle.std.specs.List.{All}
use Rattle.symk_task.specs.declared.parts.Fact.{Fact}
use Rattle.symk_task.specs.declared.parts.Operator.{Operator}
use Rattle.symk_task.specs.declared.parts.TaskParts.{TaskParts}
use Rattle.symk_task.specs.Fits.{Fits, FitsOperator}
use Rattle.symk_task.proofs.Places.{within_some}
use Rattle.task_run.specs.Values.{AppliesBy, AreBelow, IsOn}
use Rattle.task_run.proofs.Applying.{below}
use Rattle.task_run.proofs.Stepping.{operator_at}
use Rattle.stubborn_sets.specs.Making.{IsMissingFact}
use Rattle.symk_task.specs.declared.parts.Rule.{Rule}
use Rattle.stubborn_sets.specs.Barring.{CannotComeFirst, HasBar, IsStopped}
use Rattle.stubborn_sets.specs.Closing.{GrowsMarks, HasMakers, StaysFalse, HasConflicts, HasNeeds}

pub makers_grow : (task : TaskParts) (fact : Fact) (old new : List Bool) → GrowsMarks old new → HasMakers task fact old → HasMakers task fact new
makers_grow task fact old new grows h a lt = elim (h a lt) [ inl it_is ↦ inl (grows a it_is) | inr off ↦ inr off ]

-- a fact waits on, as more variables are barred and more operators marked
pub waits_grow : (task : TaskParts) (fact : Fact) (bars more old new : List Bool) → GrowsMarks bars more → GrowsMarks old new
    → CannotComeFirst task bars old fact → CannotComeFirst task more new fact
waits_grow task fact bars more old new to on (inl (raising, it_is)) = inl (raising, to fact.var it_is)
waits_grow task fact bars more old new to on (inr makers) = inr (makers_grow task fact old new on makers)

pub bar_grows : (task : TaskParts) (values : List ℕ) (bars more old new : List Bool) (conds : List Fact)
    → GrowsMarks bars more → GrowsMarks old new → HasBar task values bars old conds → HasBar task values more new conds
bar_grows task values bars more old new conds to on b = record {
  fact = b.fact;
  among = b.among;
  unmet = b.unmet;
  waits =
      waits_grow task b.fact bars more old new to on b.waits;
}

pub stopped_grows : (task : TaskParts) (values : List ℕ) (bars more old new : List Bool) (rule : Rule)
    → GrowsMarks bars more → GrowsMarks old new → IsStopped task values bars old rule → IsStopped task values more new rule
stopped_grows task values bars more old new rule to on h raises = bar_grows task values bars more old new rule.conds to on (h raises)

pub false_grows : (task : TaskParts) (values : List ℕ) (fact : Fact) (old new : List Bool) → GrowsMarks old new
    → StaysFalse task values old fact → StaysFalse task values new fact
false_grows task values fact old new grows (inl makers) = inl (makers_grow task fact old new grows makers)
false_grows task values fact old new grows (inr b) = inr (record {
  barred = b.barred;
  raises = b.raises;
  rules = λ k d lt on raises. bar_grows task values b.barred b.barred old new (get_or task.rules k d).conds (λ a h. h) grows (b.rules k d lt on raises);
})

conflicts_grow : (task : TaskParts) (one : ℕ) (old new : List Bool) → GrowsMarks old new → HasConflicts task one old → HasConflicts task one new
conflicts_grow task one old new grows h a lt = elim (h a lt) [ inl it_is ↦ inl (grows a it_is) | inr off ↦ inr off ]

-- what one operator needs, by the operator
abbrev pub Needs : TaskParts → List ℕ → ℕ → List Bool → Operator → Type 0
Needs task values one marks operator = (AppliesBy values operator × HasConflicts task one marks)
    ⊎ ((fact : Fact) × IsMissingFact values operator fact × StaysFalse task values marks fact)

pub needs_grow : (task : TaskParts) (values : List ℕ) (one : ℕ) (old new : List Bool) (o : Option Operator)
    → GrowsMarks old new → IsSomeAnd o (Needs task values one old) → IsSomeAnd o (Needs task values one new)
needs_grow task values one old new None grows h = h
needs_grow task values one old new (Some operator) grows (inl (applies, conflicts)) = inl (applies, conflicts_grow task one old new grows conflicts)
needs_grow task values one old new (Some operator) grows (inr (fact, lacks, makers)) = inr (fact, lacks, false_grows task values fact old new grows makers)

-- by what the code looked at
module _ (task parts : TaskParts) (operators : List Operator) (one : ℕ) (operator : Operator) (values : List ℕ)
    (fits : Fits task) (same : parts ≡ task) (list : operators ≡ parts.operators) (lt : one < length task.operators)
    (is : operator ≡ get_or operators one operator) where
  all : operators ≡ task.operators
  all = list ∙ ap (λ (z : TaskParts). z.operators) same

  pub here : slice_get task.operators one ≡ Some operator
  here = (operator_at task operators one operator fits all lt is).0

  pub fits_at : FitsOperator task.variables operator
  fits_at = (operator_at task operators one operator fits all lt is).1

  pub on_all : length values ≡ length task.variables → AreBelow (length values) operator.prevail × All (IsOn (length values)) operator.effects
  on_all each = below task values operator each (operator_at task operators one operator fits all lt is).1

  pub needs_by : (marks : List Bool) → Needs task values one marks operator → HasNeeds task values one marks
  needs_by marks h = subst (λ (o : Option Operator). IsSomeAnd o (Needs task values one marks)) (sym here) h

-- the goal's variables have values
pub goal_below : (task : TaskParts) (values : List ℕ) → Fits task → length values ≡ length task.variables → AreBelow (length values) task.goal
goal_below task values fits each k d lt = (let h = within_some _ task.variables (get_or task.goal k d).var (fits.goal.1 k d lt) in omega (arith, h, each))
