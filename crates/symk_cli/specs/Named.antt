-- Texts of names.
use Rattle.std.specs.Prelude.{◌≡◌, ⊤, Option, Some, None, IfSome}
use Rattle.symk_io.specs.View.{Bytes, Tells, Grew, Told}
use Rattle.symk_io.specs.Told.{Opened, MayOpen}
use Rattle.symk_cli.specs.Refusals.{unreadable_text}
use Rattle.symk_cli.specs.declared.reading.Named.{Named}
use Rattle.run_status.specs.declared.status.Status.{Status}
use Rattle.run_status.specs.declared.status.Status.TheVariants.{Unreadable}

-- the text is the one that is told of the name, where texts are told
abbrev pub IsToldText : Option Told → Bytes → Bytes → Type 0
IsToldText None name text = ⊤
IsToldText (Some told) name text = told.text name ≡ Some text

-- a text of the name is so
abbrev pub HasText : Option Told → Bytes → (Bytes → Type 0) → Type 0
HasText told name IsSo = (text : Bytes) × IsToldText told name text × IsSo text

-- what was read of the name is so: a text of it, or none
abbrev pub HasRead : Option Told → Bytes → (Option Bytes → Type 0) → Type 0
HasRead told name IsSo = (read : Option Bytes) × IfSome read (IsToldText told name) × IsSo read

-- At most the name was opened; where its text can't be read it was, and the sink took the text that says so.
pub record StopsAt (named : Named) (name : Bytes) (old new : Option Told) (before after : Option Bytes) (result : Status) : Type 0 where
  pub names : Tells (MayOpen name) old new
  pub opened : result ≡ Unreadable → Tells (Opened name) old new
  pub unreadable : result ≡ Unreadable → Tells (Grew (unreadable_text named)) before after
