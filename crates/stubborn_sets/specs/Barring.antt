-- Facts that stay false before a marked operator is applied.
use Rattle.std.specs.Prelude.{◌≡◌, ℕ, ◌<◌, ◌⊎◌, Bool, IsTrue, List, length, All, Contains}
use Rattle.symk_task.specs.declared.parts.Fact.{Fact}
use Rattle.symk_task.specs.declared.parts.Rule.{Rule}
use Rattle.symk_task.specs.declared.parts.TaskParts.{TaskParts}
use Rattle.symk_task.specs.Variables.{IsBase, other_value}
use Rattle.task_run.specs.Values.{HasValue}
use Rattle.stubborn_sets.specs.Depending.{has_mark}
use Rattle.stubborn_sets.specs.Making.{IsNoMaker}

-- each operator is marked, or can't make the fact true
abbrev pub HasMakers : TaskParts → Fact → List Bool → Type 0
HasMakers task fact marks = (a : ℕ) → a < length task.operators → IsTrue (has_mark marks a) ⊎ IsNoMaker task fact a

-- it says of a derived variable that rules raise it
abbrev pub IsRaising : TaskParts → Fact → Type 0
IsRaising task fact = ¬ IsBase task fact.var × (fact.val ≡ other_value task fact.var)

-- it says so of a barred one
abbrev pub RaisesBarred : TaskParts → List Bool → Fact → Type 0
RaisesBarred task barred fact = IsRaising task fact × IsTrue (has_mark barred fact.var)

-- the fact can't come true first: it says that a barred variable is raised, or the operators that can make it true are marked
abbrev pub CannotComeFirst : TaskParts → List Bool → List Bool → Fact → Type 0
CannotComeFirst task barred marks fact = RaisesBarred task barred fact ⊎ HasMakers task fact marks

-- One of the conditions doesn't hold by the values, and can't come true first.
pub record HasBar (task : TaskParts) (values : List ℕ) (barred marks : List Bool) (conds : List Fact) : Type 0 where
  pub fact : Fact
  pub among : Contains conds fact
  pub unmet : ¬ HasValue values fact
  pub waits : CannotComeFirst task barred marks fact

-- if the rule raises its variable, one of its conditions is so
abbrev pub IsStopped : TaskParts → List ℕ → List Bool → List Bool → Rule → Type 0
IsStopped task values barred marks rule = rule.new ≡ other_value task rule.var → HasBar task values barred marks rule.conds

-- each rule for the variable is stopped
abbrev pub AreStopped : TaskParts → List ℕ → List Bool → List Bool → ℕ → Type 0
AreStopped task values barred marks var = All (λ rule. rule.var ≡ var → IsStopped task values barred marks rule) task.rules

-- the rule is, if it is for a barred variable
abbrev pub IsBarredRule : TaskParts → List ℕ → List Bool → List Bool → Rule → Type 0
IsBarredRule task values barred marks rule = IsTrue (has_mark barred rule.var) → IsStopped task values barred marks rule

abbrev pub AreBarredRules : TaskParts → List ℕ → List Bool → List Bool → List Rule → Type 0
AreBarredRules task values barred marks rules = All (IsBarredRule task values barred marks) rules

-- There are barred variables, and the fact says of one that it is raised.
pub record IsBarred (task : TaskParts) (values : List ℕ) (marks : List Bool) (fact : Fact) : Type 0 where
  pub barred : List Bool
  pub raises : RaisesBarred task barred fact
  pub rules : AreBarredRules task values barred marks task.rules

-- the fact, which doesn't hold by the values, stays false before a marked operator is applied
abbrev pub StaysFalse : TaskParts → List ℕ → List Bool → Fact → Type 0
StaysFalse task values marks fact = HasMakers task fact marks ⊎ IsBarred task values marks fact
