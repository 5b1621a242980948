-- Which sets a caller owns: those that it made and keeps, and gives back one day.
use Rattle.std.specs.Prelude.{◌≡◌, ◌≢◌, IsFalse, ◌⊎◌, List, [], ◌∷◌}
use Rattle.task_system.specs.System.{State}
use Rattle.space_api.specs.View.{View, Valid}

-- x stands in the list
abbrev pub Amid : {Set : Type 0} → List Set → Set → Type 0
Amid [] x = ⊥
Amid (y ∷ ys) x = (x ≡ y) ⊎ Amid ys x

-- x does not stand in the list
abbrev pub Absent : {Set : Type 0} → List Set → Set → Type 0
Absent [] x = Unit {0}
Absent (y ∷ ys) x = (x ≢ y) × Absent ys x

-- no two members are the same set
abbrev pub AllApart : {Set : Type 0} → List Set → Type 0
AllApart [] = Unit {0}
AllApart (x ∷ xs) = Absent xs x × AllApart xs

-- The old sets of an owner gave way to its new ones. A new one was an old one or was not valid; an old one that is not
-- among the new ones is no longer valid; and every other set is valid as before and has the same states.
pub record Trades {Set : Type 0} (v w : View Set) (Old New : Set → Type 0) : Type 0 where
  pub system : w.system ≡ v.system
  pub owned : (a : Set) → New a → Valid w a
  pub fresh : (a : Set) → New a → ¬ Old a → IsFalse (v.valid a)
  pub given : (a : Set) → Old a → Valid w a → New a
  pub others : (a : Set) → Valid v a → ¬ Old a → Valid w a
  pub only : (a : Set) → Valid w a → New a ⊎ Valid v a
  pub same : (a : Set) → Valid v a → ¬ Old a → (s : State) → w.has a s ≡ v.has a s
