-- Which files are opened.
use Rattle.std.specs.Prelude.{◌≡◌, ℕ, ◌≤◌, zero, suc, ◌++◌, List, length, take, map, slice_get, Option, IsSomeAnd}
use Rattle.symk_io.specs.View.{Bytes, Tells, Grew, Told}
use Rattle.symk_cli.specs.Refusals.{unreadable_text}
use Rattle.symk_cli.specs.declared.reading.Named.{Named}
use Rattle.run_status.specs.declared.status.Status.{Status}
use Rattle.run_status.specs.declared.status.Status.TheVariants.{Unreadable}

-- the texts stay, and the first so many of these files were opened, in this order
pub record OpensFirstFiles (count : ℕ) (files : List (Named × Bytes)) (old new : Told) : Type 0 where
  pub texts : new.text ≡ old.text
  pub opened : new.opened ≡ old.opened ++ map (λ (f : Named × Bytes). f.1) (take count files)

-- the sink took the text that says that the last of the first so many files can't be read
abbrev pub TellsUnreadable : ℕ → List (Named × Bytes) → Option Bytes → Option Bytes → Type 0
TellsUnreadable zero files before after = ⊥
TellsUnreadable (suc n) files before after = IsSomeAnd (slice_get files n) (λ f. Tells (Grew (unreadable_text f.0)) before after)

-- The files that were opened are the first of those asked for; where one can't be read, it is the last that was opened.
pub record OpensFiles (files : List (Named × Bytes)) (old new : Option Told) (before after : Option Bytes) (result : Status) : Type 0 where
  pub count : ℕ
  pub within : count ≤ length files
  pub first : Tells (OpensFirstFiles count files) old new
  pub last : result ≡ Unreadable → TellsUnreadable count files before after
