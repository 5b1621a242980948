-- What the pairs come to: one more, one less, all kept, one move after the other.
use Rattle.std.proofs.Common.{◌≡◌, ℕ, zero, suc, ◌<◌, ◌↔◌, List, [], ◌∷◌, ◌++◌, take, drop, length, get_or, map, inl, inr, refl, sym, ◌∙◌, ap, subst, arith}
use Rattle.std.specs.List.{AllByRecursion, remove}
use Rattle.std.proofs.Math.Seq.{split_at}
use Rattle.std.proofs.lemmas.List.{map-append, append-nil}
use Rattle.std.proofs.lemmas.Bool.Decides.{same_from_decides}
use Rattle.task_system.specs.System.{State}
use Rattle.space_api.specs.View.{View, Valid}
use Rattle.space_api.specs.Frames.{Forgot, Stays}
use Rattle.space_api.specs.Owned.{Amid, Trades}
use Rattle.space_api.proofs.Owning.{amid_push}
use Rattle.space_api.proofs.Trading.{trades_trans}
use Rattle.space_tests.specs.declared.pairs.Pair.{Pair}
use Rattle.space_tests.specs.Pairs.{lefts, rights, AreOwn, AreKept, IsAlike, AgreeInPairs, MakesPair, MovesPairs}
use Rattle.space_tests.proofs.Sides.{push_trades, push_own, out_trades, out_own, stay_trades, stay_own}

-- one member more, and one less
all_push : {X : Type 0} (P : X → Type 0) (xs : List X) (x : X) → AllByRecursion P xs → P x → AllByRecursion P (xs ++ x ∷ [])
all_push P [] x h k = (k, tt)
all_push P (y ∷ xs) x h k = (h.0, all_push P xs x h.1 k)

all_without : {X : Type 0} (P : X → Type 0) (before : List X) (x : X) (after : List X) → AllByRecursion P (before ++ x ∷ after) → AllByRecursion P (before ++ after)
all_without P [] x after h = h.1
all_without P (y ∷ before) x after h = (h.0, all_without P before x after h.1)

-- what is found at a place is amid the list
pub amid_at : {X Set : Type 0} (f : X → Set) (xs : List X) (i : ℕ) (x : X) → i < length xs → x ≡ get_or xs i x → Amid (map f xs) (f x)
amid_at f [] i x lt e = absurd (omega arith)
amid_at f (y ∷ xs) zero x lt e = inl (ap f e)
amid_at f (y ∷ xs) (suc i) x lt e = inr (amid_at f xs i x (omega arith) e)

module _ {S T : Type 0} where
  -- sets that stay as they were are alike as they were
  alike_on : (v v2 : View S) (w w2 : View T) (pairs : List (Pair S T)) → ((a : S) → Amid (lefts pairs) a → (s : State) → v2.has a s ≡ v.has a s) → ((a : T) → Amid (rights pairs) a → (s : State) → w2.has a s ≡ w.has a s) → AllByRecursion (IsAlike v w) pairs → AllByRecursion (IsAlike v2 w2) pairs
  alike_on v v2 w w2 [] f g h = tt
  alike_on v v2 w w2 (p ∷ pairs) f g h = ((λ s. f p.left (inl refl) s ∙ h.0 s ∙ sym (g p.right (inl refl) s)), alike_on v v2 w w2 pairs (λ a m. f a (inr m)) (λ a m. g a (inr m)) h.1)

  -- one pair more
  module _ {v v2 : View S} {w w2 : View T} {P Q : State → Type 0} (pairs : List (Pair S T)) (p : Pair S T)
      (o : AreKept v w pairs) (m : MakesPair v v2 w w2 P Q p)
      (same : AgreeInPairs v w pairs → (s : State) → P s ↔ Q s) where
    new_alike : AgreeInPairs v w pairs → IsAlike v2 w2 p
    new_alike h s =
        let l = m.left.means s in
        let r = m.right.means s in
        let e = same h s in
        same_from_decides (v2.has p.left s) (w2.has p.right s) (l.0, l.1) ((λ t. e.1 (r.0 t)), (λ t. r.1 (e.0 t)))

    more : AgreeInPairs v w pairs → AgreeInPairs v2 w2 (pairs ++ p ∷ [])
    more h = record {
      system = m.left_kept.system ∙ h.system ∙ sym m.right_kept.system;
      each = all_push (IsAlike v2 w2) pairs p (alike_on v v2 w w2 pairs (λ a i. m.left_kept.same a (o.left.valid a i)) (λ a i. m.right_kept.same a (o.right.valid a i)) h.each) (new_alike h);
    }

    pub moves_push : MovesPairs v v2 w w2 pairs (pairs ++ p ∷ [])
    moves_push =
        let e : lefts (pairs ++ p ∷ []) ≡ lefts pairs ++ p.left ∷ [] = map-append (λ (q : Pair S T). q.left) pairs (p ∷ []) in
        let f : rights (pairs ++ p ∷ []) ≡ rights pairs ++ p.right ∷ [] = map-append (λ (q : Pair S T). q.right) pairs (p ∷ []) in
        record {
          left = subst (λ (xs : List S). Trades v v2 (Amid (lefts pairs)) (Amid xs)) (sym e) (push_trades (lefts pairs) p.left o.left m.left_kept m.left);
          right = subst (λ (xs : List T). Trades w w2 (Amid (rights pairs)) (Amid xs)) (sym f) (push_trades (rights pairs) p.right o.right m.right_kept m.right);
          kept = record {
            left = subst (AreOwn v2) (sym e) (push_own (lefts pairs) p.left o.left m.left_kept m.left);
            right = subst (AreOwn w2) (sym f) (push_own (rights pairs) p.right o.right m.right_kept m.right);
          };
          alike = more;
        }

  -- one pair less
  module _ {v v2 : View S} {w w2 : View T} (before : List (Pair S T)) (p : Pair S T) (after : List (Pair S T)) (o : AreKept v w (before ++ p ∷ after)) (x : Forgot v v2 p.left) (y : Forgot w w2 p.right) where
    left_parts : lefts (before ++ p ∷ after) ≡ lefts before ++ p.left ∷ lefts after
    left_parts = map-append (λ (q : Pair S T). q.left) before (p ∷ after)

    right_parts : rights (before ++ p ∷ after) ≡ rights before ++ p.right ∷ rights after
    right_parts = map-append (λ (q : Pair S T). q.right) before (p ∷ after)

    left_rest : lefts (before ++ after) ≡ lefts before ++ lefts after
    left_rest = map-append (λ (q : Pair S T). q.left) before after

    right_rest : rights (before ++ after) ≡ rights before ++ rights after
    right_rest = map-append (λ (q : Pair S T). q.right) before after

    left_own : AreOwn v (lefts before ++ p.left ∷ lefts after)
    left_own = subst (AreOwn v) left_parts o.left

    right_own : AreOwn w (rights before ++ p.right ∷ rights after)
    right_own = subst (AreOwn w) right_parts o.right

    kept : AreKept v2 w2 (before ++ after)
    kept = record {
      left = subst (AreOwn v2) (sym left_rest) (out_own (lefts before) p.left (lefts after) left_own x);
      right = subst (AreOwn w2) (sym right_rest) (out_own (rights before) p.right (rights after) right_own y);
    }

    pub moves_cut : MovesPairs v v2 w w2 (before ++ p ∷ after) (before ++ after)
    moves_cut = record {
      left = subst (λ (xs : List S). Trades v v2 (Amid xs) (Amid (lefts (before ++ after)))) (sym left_parts) (subst (λ (xs : List S). Trades v v2 (Amid (lefts before ++ p.left ∷ lefts after)) (Amid xs)) (sym left_rest) (out_trades (lefts before) p.left (lefts after) left_own x));
      right = subst (λ (xs : List T). Trades w w2 (Amid xs) (Amid (rights (before ++ after)))) (sym right_parts) (subst (λ (xs : List T). Trades w w2 (Amid (rights before ++ p.right ∷ rights after)) (Amid xs)) (sym right_rest) (out_trades (rights before) p.right (rights after) right_own y));
      kept = kept;
      alike = λ h. record {
        system = x.system ∙ h.system ∙ sym y.system;
        each = alike_on v v2 w w2 (before ++ after) (λ a i. x.same a (kept.left.valid a i)) (λ a i. y.same a (kept.right.valid a i)) (all_without (IsAlike v w) before p after h.each);
      };
    }

  -- the pair at a place
  pub moves_out : {v v2 : View S} {w w2 : View T} (pairs : List (Pair S T)) (at : ℕ) (p : Pair S T)
      (new : List (Pair S T)) → at < length pairs → p ≡ get_or pairs at p → new ≡ remove pairs at → AreKept v w pairs
      → Forgot v v2 p.left → Forgot w w2 p.right → MovesPairs v v2 w w2 pairs new
  moves_out {v = v} {v2 = v2} {w = w} {w2 = w2} pairs at p new lt is rest o x y =
      let e : pairs ≡ take at pairs ++ p ∷ drop (suc at) pairs = split_at pairs at p lt ∙ ap (λ (q : Pair S T). take at pairs ++ q ∷ drop (suc at) pairs) (sym is) in
      let cut = moves_cut (take at pairs) p (drop (suc at) pairs) (subst (AreKept v w) e o) x y in
      subst (λ (ps : List (Pair S T)). MovesPairs v v2 w w2 ps new) (sym e)
      (subst (λ (ps : List (Pair S T)). MovesPairs v v2 w w2 (take at pairs ++ p ∷ drop (suc at) pairs) ps)
      (sym rest) cut)

  -- the last pair
  pub last_valid : {v : View S} {w : View T} (old new : List (Pair S T)) (p : Pair S T) → old ≡ new ++ p ∷ [] → AreKept v w old → Valid v p.left × Valid w p.right
  last_valid {v = v} {w = w} old new p e o =
      let k = subst (AreKept v w) e o in
      let l = subst (AreOwn v) (map-append (λ (q : Pair S T). q.left) new (p ∷ [])) k.left in
      let r = subst (AreOwn w) (map-append (λ (q : Pair S T). q.right) new (p ∷ [])) k.right in
      (l.valid p.left ((amid_push (lefts new) p.left p.left).1 (inr refl)), r.valid p.right ((amid_push (rights new) p.right p.right).1 (inr refl)))

  pub moves_pop : {v v2 : View S} {w w2 : View T} (old new : List (Pair S T)) (p : Pair S T) → old ≡ new ++ p ∷ []
      → AreKept v w old → Forgot v v2 p.left → Forgot w w2 p.right → MovesPairs v v2 w w2 old new
  moves_pop {v = v} {v2 = v2} {w = w} {w2 = w2} old new p e o x y =
      let cut = moves_cut new p [] (subst (AreKept v w) e o) x y in
      subst (λ (ps : List (Pair S T)). MovesPairs v v2 w w2 ps new) (sym e)
      (subst (λ (ps : List (Pair S T)). MovesPairs v v2 w w2 (new ++ p ∷ []) ps) (append-nil new) cut)

  -- nothing changes
  pub moves_stay : {v v2 : View S} {w w2 : View T} (pairs : List (Pair S T)) → AreKept v w pairs → Stays v v2 → Stays w w2 → MovesPairs v v2 w w2 pairs pairs
  moves_stay {v = v} {v2 = v2} {w = w} {w2 = w2} pairs o x y = record {
    left = stay_trades (lefts pairs) o.left x;
    right = stay_trades (rights pairs) o.right y;
    kept = record { left = stay_own (lefts pairs) o.left x; right = stay_own (rights pairs) o.right y };
    alike = λ h. record {
      system = x.kept.system ∙ h.system ∙ sym y.kept.system;
      each = alike_on v v2 w w2 pairs (λ a i. x.kept.same a (o.left.valid a i)) (λ a i. y.kept.same a (o.right.valid a i)) h.each;
    };
  }

  -- one move after the other
  pub moves_trans : {u v v2 : View S} {t w w2 : View T} {old mid new : List (Pair S T)} → MovesPairs u v t w old mid
      → MovesPairs v v2 w w2 mid new → MovesPairs u v2 t w2 old new
  moves_trans j k = record {
    left = trades_trans j.left k.left;
    right = trades_trans j.right k.right;
    kept = k.kept;
    alike = λ h. k.alike (j.alike h);
  }
