-- What reading a whole text does.
use Rattle.std.specs.Prelude.{◌≡◌, [], ◌∷◌, ◌++◌, ◌⊎◌, ⊤, IfSome, IsSome}
use Rattle.std.specs.declared.option.Option.{Option}
use Rattle.std.specs.declared.option.Option.TheVariants.{Some, None}
use Rattle.symk_io.specs.View.{Bytes, Told}

-- the text is that of the name, where it is told
abbrev pub IsTextOf : Option Told → Bytes → Bytes → Type 0
IsTextOf None name text = ⊤
IsTextOf (Some told) name text = IfSome (told.text name) (λ t. t ≡ text)

-- the name has a text, where texts are told
abbrev pub IsNamed : Option Told → Bytes → Type 0
IsNamed None name = ⊤
IsNamed (Some told) name = IsSome (told.text name)

-- the texts stay, and the name was opened
pub record Opened (name : Bytes) (old new : Told) : Type 0 where
  pub texts : new.text ≡ old.text
  pub names : new.opened ≡ old.opened ++ (name ∷ [])

-- the texts stay, and the name was opened or nothing was
pub record MayOpen (name : Bytes) (old new : Told) : Type 0 where
  pub texts : new.text ≡ old.text
  pub names : (new.opened ≡ old.opened) ⊎ (new.opened ≡ old.opened ++ (name ∷ []))

-- the name was opened, and it has a text: what was read and then what is left
pub record IsReading (name read : Bytes) (old new : Told) : Type 0 where
  pub opened : Opened name old new
  pub text : old.text name ≡ Some (read ++ new.left)
