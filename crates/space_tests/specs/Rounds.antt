-- What it takes that two spaces agree: calls, one after the other, about each of which both answered alike.
use Rattle.std.specs.Prelude.{◌≡◌, ℕ, zero, suc, true, List, [], Contains}
use Rattle.task_system.specs.System.{Listed}
use Rattle.space_api.specs.View.{View}
use Rattle.space_tests.specs.declared.asking.Call.{Call}
use Rattle.space_tests.specs.declared.pairs.Pair.{Pair}
use Rattle.space_tests.specs.Calls.{Means}
use Rattle.space_tests.specs.Pairs.{MovesPairs}
use Rattle.space_tests.specs.Answers.{Compares}

-- A call with sets of kept pairs gave a pair about which both spaces answer alike. Then pairs may be given back.
pub record IsAgreeingRound {S T : Type 0} (v v2 : View S) (w w2 : View T) (old new : List (Pair S T)) : Type 0 where
  pub call : Call
  pub first : Pair S T
  pub first_kept : Contains old first
  pub second : Pair S T
  pub second_kept : Contains old second
  pub left : View S
  pub right : View T
  pub more : List (Pair S T)
  pub compares : Compares v left w right (Means v call first.left second.left) (Means w call first.right second.right) old more true
  pub moves : MovesPairs left v2 right w2 more new

-- so many rounds lead on
abbrev pub AreRounds : {S T : Type 0} → ℕ → View S → View S → View T → View T → List (Pair S T) → List (Pair S T) → Type 0
AreRounds zero v v2 w w2 old new = (v2 ≡ v) × (w2 ≡ w) × (new ≡ old)
AreRounds {S} {T} (suc n) v v2 w w2 old new = (u : View S) × (t : View T) × (mid : List (Pair S T))
    × AreRounds n v u w t old mid × IsAgreeingRound u v2 t w2 mid new

-- both spaces answer alike about the set of all states, and then in so many rounds
pub record AgreeFor {S T : Type 0} (n : ℕ) (v : View S) (w : View T) : Type 0 where
  pub left : View S
  pub right : View T
  pub pairs : List (Pair S T)
  pub start : Compares v left w right (Listed v.system.states) (Listed w.system.states) [] pairs true
  pub last_left : View S
  pub last_right : View T
  pub last : List (Pair S T)
  pub rounds : AreRounds n left last_left right last_right pairs last
