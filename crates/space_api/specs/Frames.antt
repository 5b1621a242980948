-- What a call of a space keeps and changes: from the view before it to the view after it.
use Rattle.std.specs.Prelude.{◌≡◌, ◌≢◌, IsFalse, ◌⊎◌, ◌↔◌, Result, IfOk, OnErr}
use Rattle.std.specs.declared.alloc.AllocError.{AllocError}
use Rattle.task_system.specs.System.{State}
use Rattle.space_api.specs.View.{View, Valid, Has}

-- the system stays, and each set that was valid is valid and has the same states
pub record Kept {Set : Type 0} (v w : View Set) : Type 0 where
  pub system : w.system ≡ v.system
  pub valid : (a : Set) → Valid v a → Valid w a
  pub same : (a : Set) → Valid v a → (s : State) → w.has a s ≡ v.has a s

-- no set became valid
abbrev pub NoMore : {Set : Type 0} → View Set → View Set → Type 0
NoMore {Set} v w = (a : Set) → Valid w a → Valid v a

-- r was not valid, it alone became so, and it has the states of which P holds
pub record Gives {Set : Type 0} (v w : View Set) (P : State → Type 0) (r : Set) : Type 0 where
  pub fresh : IsFalse (v.valid r)
  pub valid : Valid w r
  pub only : (a : Set) → Valid w a → Valid v a ⊎ (a ≡ r)
  pub means : (s : State) → Has w r s ↔ P s

-- Each set that was valid stays as it is, and so do the task and the number of nodes that were needed last. A call that is not
-- refused gives a set of the states of which P holds, and a refused one makes none.
pub record MakesSet {Set : Type 0} (v w : View Set) (P : State → Type 0) (result : Result Set AllocError) : Type 0 where
  pub kept : Kept v w
  pub ok : IfOk result (Gives v w P)
  pub err : OnErr result (NoMore v w)
  pub last : w.last ≡ v.last
  pub task : w.task ≡ v.task

-- a is no longer valid, and all else stays; nothing is collected
pub record Forgot {Set : Type 0} (v w : View Set) (a : Set) : Type 0 where
  pub task : w.task ≡ v.task
  pub system : w.system ≡ v.system
  pub gone : IsFalse (w.valid a)
  pub valid : (b : Set) → Valid v b → b ≢ a → Valid w b
  pub only : (b : Set) → Valid w b → Valid v b
  pub same : (b : Set) → Valid w b → (s : State) → w.has b s ≡ v.has b s
  pub held : w.held ≡ v.held
  pub last : w.last ≡ v.last

-- the same sets are valid, and each has the same states
pub record Stays {Set : Type 0} (v w : View Set) : Type 0 where
  pub kept : Kept v w
  pub only : NoMore v w
