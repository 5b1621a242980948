-- How what is told goes on.
use Rattle.std.proofs.Common.{◌≡◌, ◌∙◌, ap, sym, ℕ, ◌+◌, ◌<◌, ◌++◌, length, take, drop, arith, append_assoc, subst, Option, Some, None, IfSome, refl, Ok}
use Rattle.std.proofs.Math.Seq.{take-add}
use Rattle.std.proofs.lemmas.List.{length-append, take-append-drop, drop-drop, take_at}
use Rattle.symk_io.specs.View.{Bytes, Told, Tells, Grew, Writes}
use Rattle.symk_io.specs.Told.{IsReading, IsTextOf}

-- a front was taken, and then some of the rest
pub grew_more : (piece rest : Bytes) (at n : ℕ) (old mid new : Option Bytes) → rest ≡ drop at piece
    → Tells (Grew (take at piece)) old mid → Tells (Writes rest (Ok n)) mid new
    → Tells (Grew (take (at + n) piece)) old new
grew_more piece rest at n None None None e p q = tt
grew_more piece rest at n None None (Some c) e p q = q
grew_more piece rest at n None (Some b) c e p q = absurd p
grew_more piece rest at n (Some a) None c e p q = absurd p
grew_more piece rest at n (Some a) (Some b) None e p q = q
grew_more piece rest at n (Some a) (Some b) (Some c) e p q =
    q ∙ ap (λ x. b ++ take n x) e ∙ ap (λ x. x ++ take n (drop at piece)) p
    ∙ append_assoc a (take at piece) (take n (drop at piece)) ∙ ap (λ x. a ++ x) (sym (take-add at n piece))

-- a text that goes on past what was read is longer
longer : (read left text : Bytes) (limit : ℕ) → text ≡ read ++ left → limit < length read → limit < length text
longer read left text limit e h = let n : length text ≡ length read + length left = ap length e ∙ length-append read left in omega (arith, n)

by_text : (told : Option Bytes) (read left : Bytes) (limit : ℕ) → told ≡ Some (read ++ left) → limit < length read
    → (x : Bytes) × (limit < length x) × IfSome told (λ t. t ≡ x)
by_text told read left limit e h = (read ++ left, longer read left (read ++ left) limit refl h, subst (λ o. IfSome o (λ t. t ≡ read ++ left)) (sym e) refl)

-- there is a text past the limit
pub long_text : (name read : Bytes) (limit : ℕ) (old new : Option Told) → Tells (IsReading name read) old new
    → limit < length read → (x : Bytes) × (limit < length x) × IsTextOf old name x
long_text name read limit None None p h = (read, h, tt)
long_text name read limit None (Some b) p h = absurd p
long_text name read limit (Some a) None p h = absurd p
long_text name read limit (Some a) (Some b) p h = by_text (a.text name) read b.left limit p.text h

-- what was given is the front of what was left
pub given_front : (text given rest : Bytes) (at n : ℕ) → given ≡ take n (drop at text) → length given ≡ n
    → drop at text ≡ take n (given ++ rest) ++ drop (at + n) text
given_front text given rest at n e len =
    sym (take-append-drop n (drop at text)) ∙ ap (λ x. x ++ drop n (drop at text)) (sym e)
    ∙ ap (λ x. given ++ x) (drop-drop n at text) ∙ ap (λ x. x ++ drop (at + n) text)
    (sym (take_at given rest n len))
