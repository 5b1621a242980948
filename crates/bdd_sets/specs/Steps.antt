-- Which facts hold where steps of an operator start, and where they end.
use Rattle.std.specs.Prelude.{◌≡◌, ◌≢◌, ◌⊎◌, ◌↔◌, ℕ, ◌<◌, List, [], ◌∷◌, length, slice_index_or, Some, IsFalse, Contains}
use Rattle.std.specs.List.{AllByRecursion}
use Rattle.std.specs.Ordering.{nat_cmp}
use Rattle.std.specs.BTreeSet.{BTreeSet, contains}
use Rattle.symk_task.specs.declared.parts.Fact.{Fact}
use Rattle.symk_task.specs.declared.parts.Effect.{Effect}
use Rattle.symk_task.specs.declared.parts.Operator.{Operator}
use Rattle.symk_task.specs.declared.parts.TaskParts.{TaskParts}
use Rattle.var_order.specs.Layout.{Layout}
use Rattle.bdd_sets.specs.Occurs.{ArePlaces}
use Rattle.bdd_sets.specs.Placed.{IsPlaceOf}
use Rattle.bdd_sets.specs.declared.stepping.StepFacts.{StepFacts}

-- the effect asks for the value
abbrev pub AsksValue : Effect → Fact → Type 0
AsksValue effect f = (effect.var ≡ f.var) × (effect.pre ≡ Some f.val)

-- one of the effects asks for it
abbrev pub SomeAsks : List Effect → Fact → Type 0
SomeAsks effects f = (k : ℕ) × (k < length effects) × ((effect : Effect) × (slice_index_or effects k effect ≡ effect) × AsksValue effect f)

-- the operator asks for the fact, as a condition or by an effect
abbrev pub IsAsked : Operator → Fact → Type 0
IsAsked operator f = Contains operator.prevail f ⊎ SomeAsks operator.effects f

-- no effect is on the variable
abbrev pub NotOn : ℕ → List Effect → Type 0
NotOn var effects = AllByRecursion (λ effect. effect.var ≢ var) effects

-- the effect has no conditions, and gives the variable the value
abbrev pub AssignsFact : Effect → Fact → Type 0
AssignsFact effect f = (effect.conds ≡ []) × (effect.var ≡ f.var) × (effect.post ≡ f.val)

-- the last effect on the variable has no conditions, and gives it the value
abbrev pub Leaves : List Effect → Fact → Type 0
Leaves [] f = ⊥
Leaves (effect ∷ effects) f = Leaves effects f ⊎ (AssignsFact effect f × NotOn f.var effects)

-- the operator leaves the fact: by its last effect on the variable, or as a condition on a variable that no effect is on
abbrev pub IsLeft : Operator → Fact → Type 0
IsLeft operator f = Leaves operator.effects f ⊎ (Contains operator.prevail f × NotOn f.var operator.effects)

-- the facts are those that the effects leave, and the set has their variables
pub record AreLast (effects : List Effect) (facts : List Fact) (on : BTreeSet ℕ) : Type 0 where
  pub leaves : (f : Fact) → Contains facts f ↔ Leaves effects f
  pub misses : (var : ℕ) → IsFalse (contains nat_cmp on var) ↔ NotOn var effects

-- each list has the facts of one operator
pub record AreFactsBy (Of : Operator → Fact → Type 0) (operators : List Operator) (lists : List (List Fact)) : Type 0 where
  pub each : length lists ≡ length operators
  pub facts : (op : ℕ) (d : Operator) (f : Fact) → op < length operators → Contains (slice_index_or lists op []) f ↔ Of (slice_index_or operators op d) f

-- each list has the places of the marks of the facts of one operator, but of facts whose variables have no bits
pub record AreWatched (o : Layout) (starts : List ℕ) (Of : Operator → Fact → Type 0) (operators : List Operator) (lists : List (List ℕ)) : Type 0 where
  pub each : length lists ≡ length operators
  pub places : (op place : ℕ) (d : Operator) → op < length operators → Contains (slice_index_or lists op []) place ↔ ((f : Fact) × Of (slice_index_or operators op d) f × IsPlaceOf o starts f place)

-- the places are those of the order, and the lists are of what the task's operators ask for, and of what they leave
pub record AreStepFacts (task : TaskParts) (o : Layout) (steps : StepFacts) : Type 0 where
  pub places : ArePlaces o steps.places
  pub before : AreWatched o steps.places.starts.items IsAsked task.operators steps.before.items
  pub after : AreWatched o steps.places.starts.items IsLeft task.operators steps.after.items
