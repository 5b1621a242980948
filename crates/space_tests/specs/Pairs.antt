-- Pairs of sets, one in each of two spaces, that one caller owns.
use Rattle.std.specs.Prelude.{◌≡◌, List, map}
use Rattle.std.specs.List.{AllByRecursion}
use Rattle.task_system.specs.System.{State}
use Rattle.space_api.specs.View.{View, Valid}
use Rattle.space_api.specs.Frames.{Kept, Gives}
use Rattle.space_api.specs.Owned.{Amid, AllApart, Trades}
use Rattle.space_tests.specs.declared.pairs.Pair.{Pair}

-- the sets of the pairs in the one space, and those in the other
abbrev pub lefts : {S T : Type 0} → List (Pair S T) → List S
lefts pairs = map (λ p. p.left) pairs

abbrev pub rights : {S T : Type 0} → List (Pair S T) → List T
rights pairs = map (λ p. p.right) pairs

-- the sets of the list are valid, and no two of them are one
pub record AreOwn {Set : Type 0} (v : View Set) (xs : List Set) : Type 0 where
  pub valid : (a : Set) → Amid xs a → Valid v a
  pub apart : AllApart xs

-- so are those of the pairs, in each space
pub record AreKept {S T : Type 0} (v : View S) (w : View T) (pairs : List (Pair S T)) : Type 0 where
  pub left : AreOwn v (lefts pairs)
  pub right : AreOwn w (rights pairs)

-- the sets of the pair have the same states
abbrev pub IsAlike : {S T : Type 0} → View S → View T → Pair S T → Type 0
IsAlike v w p = (s : State) → v.has p.left s ≡ w.has p.right s

-- the spaces are of one system, and the sets of each pair have the same states
pub record AgreeInPairs {S T : Type 0} (v : View S) (w : View T) (pairs : List (Pair S T)) : Type 0 where
  pub system : v.system ≡ w.system
  pub each : AllByRecursion (IsAlike v w) pairs

-- a call on each space gave the pair: on the one a set of which P says the states, on the other one of which Q does
pub record MakesPair {S T : Type 0} (v v2 : View S) (w w2 : View T) (P Q : State → Type 0) (p : Pair S T) : Type 0 where
  pub left_kept : Kept v v2
  pub left : Gives v v2 P p.left
  pub right_kept : Kept w w2
  pub right : Gives w w2 Q p.right

-- In each space the sets of the old pairs gave way to those of the new ones. Where the old ones were alike, the new ones are.
pub record MovesPairs {S T : Type 0} (v v2 : View S) (w w2 : View T) (old new : List (Pair S T)) : Type 0 where
  pub left : Trades v v2 (Amid (lefts old)) (Amid (lefts new))
  pub right : Trades w w2 (Amid (rights old)) (Amid (rights new))
  pub kept : AreKept v2 w2 new
  pub alike : AgreeInPairs v w old → AgreeInPairs v2 w2 new
