-- Texts kept in memory.
use Rattle.std.specs.Prelude.{ℕ, List, [], ◌∷◌, cond, drop, replicate, string_bytes, map, slice_get}
use Rattle.std.specs.Str.{bytes_eq}
use Rattle.std.specs.declared.option.Option.{Option}
use Rattle.std.specs.declared.option.Option.TheVariants.{Some, None}
use Rattle.symk_io.specs.View.{Bytes}
use Rattle.symk_io.specs.declared.mem_files.MemText.{MemText}
use Rattle.symk_io.specs.declared.mem_files.MemText.TheVariants as text
use Rattle.symk_io.specs.declared.mem_files.MemFile.{MemFile}
use Rattle.symk_io.specs.declared.mem_files.Shelf.{Shelf}

abbrev pub bytes_of : MemText → Bytes
bytes_of (text.Bytes bytes) = bytes.items
bytes_of (text.Run byte count) = replicate count byte

-- the text of a name: that of the first file which has it
abbrev pub text_in : List MemFile → Bytes → Option Bytes
text_in [] name = None
text_in (f ∷ fs) name = cond (bytes_eq (string_bytes f.name) name) (Some (bytes_of f.text)) (text_in fs name)

abbrev pub left_of : Option MemFile → ℕ → Bytes
left_of None at = []
left_of (Some f) at = drop at (bytes_of f.text)

abbrev pub left_at : List MemFile → Option ℕ → ℕ → Bytes
left_at files None at = []
left_at files (Some i) at = left_of (slice_get files i) at

abbrev pub shelf_left : Shelf → Bytes
shelf_left s = left_at s.files.items s.open s.at

abbrev pub names_of : Shelf → List Bytes
names_of s = map (λ t. string_bytes t) s.opened.items
