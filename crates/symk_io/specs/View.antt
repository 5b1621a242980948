-- What is known of the files and of the sink, and what their calls do to it.
use Rattle.std.specs.Prelude.{◌≡◌, ℕ, List, [], ◌∷◌, ◌+◌, ◌++◌, ◌<◌, length, take, ⊤, Result, OnOk, OnErr, IfOk, IfSome, MatchResult}
use Rattle.std.specs.declared.option.Option.{Option}
use Rattle.std.specs.declared.option.Option.TheVariants.{Some, None}
use Rattle.symk_io.specs.declared.fault.IoFault.{IoFault}
use Rattle.symk_io.specs.declared.fault.IoFault.TheVariants.{Failed, Memory}

abbrev pub Bytes : Type 0
Bytes = List ℕ

-- what files tell of their texts: the text of a name, where there is one; what is left of the one opened last; the names opened, in order
pub record Told : Type 0 where
  pub text : Bytes → Option Bytes
  pub left : Bytes
  pub opened : List Bytes

pub record FilesView : Type 0 where
  pub told : Option Told
  pub faults : ℕ

pub record SinkView : Type 0 where
  pub taken : Option Bytes
  -- how many of them were made to leave by a flush
  pub flushed : Option ℕ
  -- how many flushes went well
  pub flushes : Option ℕ
  pub faults : ℕ

-- all bytes taken were flushed, where both are told
abbrev pub IsFlushed : SinkView → Type 0
IsFlushed view = IfSome view.taken (λ bytes. IfSome view.flushed (λ n. n ≡ length bytes))

-- told before and after and so related, or told neither before nor after
abbrev pub Tells : {A : Type 0} → (A → A → Type 0) → Option A → Option A → Type 0
Tells R None None = ⊤
Tells R None (Some new) = ⊥
Tells R (Some old) None = ⊥
Tells R (Some old) (Some new) = R old new

-- the names after an open that failed
abbrev pub failed_open : List Bytes → Bytes → IoFault → List Bytes
failed_open before name Failed = before ++ (name ∷ [])
failed_open before name Memory = before

-- after an open: the texts stay; the name has a text and all of it is left, or what was left still is; the name is added, unless out of memory
pub record Opens (name : Bytes) (result : Result (Unit {0}) IoFault) (old new : Told) : Type 0 where
  pub texts : new.text ≡ old.text
  pub ok : OnOk result (old.text name ≡ Some new.left)
  pub err : OnErr result (new.left ≡ old.left)
  pub names : MatchResult result (λ _. new.opened ≡ old.opened ++ (name ∷ [])) (λ e. new.opened ≡ failed_open old.opened name e)

-- after a read: what was given is taken from the front of what was left, none only at the end or where there was no room
pub record Reads (buf : Bytes) (result : Result ℕ IoFault) (old new : Told) : Type 0 where
  pub texts : new.text ≡ old.text
  pub ok : IfOk result (λ n. (old.left ≡ take n buf ++ new.left) × (n ≡ 0 → 0 < length buf → new.left ≡ []))
  pub err : OnErr result (new.left ≡ old.left)
  pub names : new.opened ≡ old.opened

-- the bytes taken grew by these
abbrev pub Grew : Bytes → Bytes → Bytes → Type 0
Grew bytes old new = new ≡ old ++ bytes

-- by a front of these
abbrev pub GrewByPart : Bytes → Bytes → Bytes → Type 0
GrewByPart bytes old new = (n : ℕ) × (new ≡ old ++ take n bytes)

abbrev pub Writes : Bytes → Result ℕ IoFault → Bytes → Bytes → Type 0
Writes piece result old new = MatchResult result (λ n. new ≡ old ++ take n piece) (λ _. new ≡ old)

-- one flush more went well, or none after an error
abbrev pub FlushesOnce : {E : Type 0} → Result (Unit {0}) E → ℕ → ℕ → Type 0
FlushesOnce result old new = MatchResult result (λ _. new ≡ old + 1) (λ _. new ≡ old)
