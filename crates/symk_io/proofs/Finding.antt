-- Finding a file by its name.
use Rattle.std.proofs.Common.{◌≡◌, ◌∙◌, ap, sym, ℕ, ◌<◌, List, ◌∷◌, true, cond, length, drop, get_or, slice_get, string_bytes, Some, refl, ◌+◌}
use Rattle.std.specs.Str.{bytes_eq}
use Rattle.std.proofs.lemmas.List.{at_drop_more}
use Rattle.std.proofs.lemmas.Option.{slice_get_read}
use Rattle.symk_io.specs.View.{Bytes}
use Rattle.symk_io.specs.Memory.{bytes_of, text_in, left_of}
use Rattle.symk_io.specs.declared.mem_files.MemFile.{MemFile}

pub found : (fs : List MemFile) (name : Bytes) (i : ℕ) (f : MemFile) → i < length fs → f ≡ get_or fs i f
    → bytes_eq (string_bytes f.name) name ≡ true → text_in (drop i fs) name ≡ text_in fs name
    → text_in fs name ≡ Some (left_of (slice_get fs i) 0)
found fs name i f lt is eq inv =
    sym inv ∙ at_drop_more (λ x. text_in x name) fs i f lt
    ∙ ap (λ g. text_in (g ∷ drop (i + 1) fs) name) (sym is)
    ∙ ap (λ b. cond b (Some (bytes_of f.text)) (text_in (drop (i + 1) fs) name)) eq
    ∙ sym (ap (λ o. Some (left_of o 0)) (slice_get_read fs (length fs) i f refl lt is))
