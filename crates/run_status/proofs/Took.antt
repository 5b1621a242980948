-- What a sink took, piece after piece.
use Rattle.std.proofs.Common.{◌≡◌, ◌∙◌, ap, sym, refl, subst, ℕ, ◌+◌, List, [], ◌∷◌, ◌++◌, take, Option, Some, None, arith, append_assoc}
use Rattle.std.specs.List.{concat}
use Rattle.std.proofs.lemmas.List.{append-nil, length-append}
use Rattle.std.proofs.lemmas.List.Folds.{concat-append}
use Rattle.symk_io.specs.View.{Bytes, Tells, Grew, GrewByPart, SinkView}
use Rattle.run_status.specs.Sent.{Sent, nothing, Took, TookPiece, TookFront, IsFrontOfPieces}

-- whole pieces
abbrev pub all_of : List Bytes → Sent
all_of pieces = record { pieces = pieces; rest = [] }

-- and then this
abbrev pub after : List Bytes → Sent → Sent
after pieces out = record { pieces = pieces ++ out.pieces; rest = out.rest }

-- bytes that grew twice grew by both
grew_twice : (x y : Bytes) (old mid new : Option Bytes) → Tells (Grew x) old mid → Tells (Grew y) mid new → Tells (Grew (x ++ y)) old new
grew_twice x y None None None p q = tt
grew_twice x y None None (Some c) p q = q
grew_twice x y None (Some b) c p q = absurd p
grew_twice x y (Some a) None c p q = absurd p
grew_twice x y (Some a) (Some b) None p q = q
grew_twice x y (Some a) (Some b) (Some c) p q = q ∙ ap (λ z. z ++ y) p ∙ append_assoc a x y

-- counts that rose twice
rose_twice : (x y z : ℕ) (old mid new : Option ℕ) → z ≡ x + y → Tells (λ a b. b ≡ a + x) old mid
    → Tells (λ a b. b ≡ a + y) mid new → Tells (λ a b. b ≡ a + z) old new
rose_twice x y z None None None e p q = tt
rose_twice x y z None None (Some c) e p q = q
rose_twice x y z None (Some b) c e p q = absurd p
rose_twice x y z (Some a) None c e p q = absurd p
rose_twice x y z (Some a) (Some b) None e p q = q
rose_twice x y z (Some a) (Some b) (Some c) e p q = omega (arith, e, p, q)

-- a count that stayed
rose_by_none : (old new : Option ℕ) → Tells (λ a b. b ≡ a) old new → Tells (λ a b. b ≡ a + 0) old new
rose_by_none None None p = tt
rose_by_none None (Some b) p = p
rose_by_none (Some a) None p = p
rose_by_none (Some a) (Some b) p = omega (arith, p)

same_bytes : (old : Option Bytes) → Tells (Grew []) old old
same_bytes None = tt
same_bytes (Some a) = sym (append-nil a)

same_count : (old : Option ℕ) → Tells (λ a b. b ≡ a) old old
same_count None = tt
same_count (Some n) = refl

-- nothing was taken
pub took_nothing : (sink : SinkView) → Took nothing sink sink
took_nothing sink = record { bytes = same_bytes sink.taken; flushes = rose_by_none sink.flushes sink.flushes (same_count sink.flushes) }

-- one piece
pub took_piece : (text : Bytes) (old new : SinkView) → TookPiece text old new → Took (all_of (text ∷ [])) old new
took_piece text old new t =
    let one : text ≡ concat (text ∷ []) ++ [] = sym (append-nil (concat (text ∷ [])) ∙ append-nil text) in
    record { bytes = subst (λ (x : Bytes). Tells (Grew x) old.taken new.taken) one t.bytes; flushes = t.flushes }

-- the bytes of a part, told or not
part_out : (text : Bytes) (old new : Option Bytes) → Tells (GrewByPart text) old new → (n : ℕ) × Tells (Grew (take n text)) old new
part_out text None None p = (0, tt)
part_out text None (Some b) p = absurd p
part_out text (Some a) None p = absurd p
part_out text (Some a) (Some b) p = p

-- the first bytes of one
pub took_front : (text : Bytes) (old new : SinkView) → TookFront text old new → (n : ℕ) × Took (record { pieces = []; rest = take n text }) old new
took_front text old new t =
    let p = part_out text old.taken new.taken t.bytes in
    (p.0, record { bytes = p.1; flushes = rose_by_none old.flushes new.flushes t.flushes })

-- pieces, and then more
joined : (pieces more : List Bytes) (rest : Bytes) → (concat pieces ++ []) ++ (concat more ++ rest) ≡ concat (pieces ++ more) ++ rest
joined pieces more rest =
    ap (λ x. x ++ (concat more ++ rest)) (append-nil (concat pieces))
    ∙ sym (append_assoc (concat pieces) (concat more) rest)
    ∙ ap (λ x. x ++ rest) (sym (concat-append pieces more))

pub took_after : (pieces : List Bytes) (out : Sent) (old mid new : SinkView) → Took (all_of pieces) old mid → Took out mid new → Took (after pieces out) old new
took_after pieces out old mid new t u = record {
  bytes = subst (λ (x : Bytes). Tells (Grew x) old.taken new.taken) (joined pieces out.pieces out.rest)
      (grew_twice _ _ old.taken mid.taken new.taken t.bytes u.bytes);
  flushes = rose_twice _ _ _ old.flushes mid.flushes new.flushes (length-append pieces out.pieces) t.flushes u.flushes;
}

-- whole pieces are a front of themselves
pub front_of_all : (pieces : List Bytes) → IsFrontOfPieces (all_of pieces) pieces
front_of_all pieces = record { later = []; pieces = sym (append-nil pieces); rest = refl }

-- so are the first bytes of a last one, after those before it
pub front_of_last : (pieces : List Bytes) (text : Bytes) (n : ℕ) (whole : List Bytes) → whole ≡ pieces ++ (text ∷ [])
    → IsFrontOfPieces (after pieces (record { pieces = []; rest = take n text })) whole
front_of_last pieces text n whole e = record { later = text ∷ []; pieces = e ∙ ap (λ x. x ++ (text ∷ [])) (sym (append-nil pieces)); rest = (n, refl) }
