-- Which files are opened, from what each part of a run opens.
use Rattle.std.proofs.Common.{◌≡◌, ◌∙◌, ap, sym, refl, subst, inl, inr, ℕ, ◌+◌, ◌⊎◌, List, [], ◌∷◌, ◌++◌, length, Option, Some, None, IfSome, arith, append_assoc}
use Rattle.std.proofs.lemmas.List.{append-nil, length_push}
use Rattle.symk_io.specs.View.{Bytes, Tells, SinkView, Told}
use Rattle.symk_io.specs.Told.{Opened}
use Rattle.symk_io.specs.Causes.{Rose}
use Rattle.symk_cli.specs.declared.reading.Named.{Named}
use Rattle.symk_cli.specs.declared.reading.Named.TheVariants.{File}
use Rattle.run_status.specs.declared.status.Status.{Status}
use Rattle.run_status.specs.declared.status.Status.TheVariants as status
use Rattle.run_status.specs.Ends.{HasCauses, OrFront, PutsOutWith}
use Rattle.symk_cli.specs.Named.{IsToldText, HasText, HasRead, StopsAt}
use Rattle.symk_cli.specs.Opens.{OpensFiles}

-- reading a file leaves the texts
pub text_before : (name other : Bytes) (old new : Option Told) (text : Bytes) → Tells (Opened name) old new → IsToldText new other text → IsToldText old other text
text_before name other None None text t h = tt
text_before name other None (Some b) text t h = absurd t
text_before name other (Some a) None text t h = absurd t
text_before name other (Some a) (Some b) text t h = subst (λ (f : Bytes → Option Bytes). f other ≡ Some text) t.texts h

read_before : (name other : Bytes) (old new : Option Told) (read : Option Bytes) → Tells (Opened name) old new → IfSome read (IsToldText new other) → IfSome read (IsToldText old other)
read_before name other old new None t h = tt
read_before name other old new (Some text) t h = text_before name other old new text t h

-- nor is what only the sink caused
pub sink_readable : (result : Status) (sink sink' : ℕ) → HasCauses result 0 0 sink sink' → result ≡ status.Unreadable → ⊥
sink_readable result sink sink' c e = let never : Rose 0 0 = c.unreadable e in absurd (omega (arith, never))

same_names : (a b : List Bytes) (name : Bytes) → b ≡ a → b ≡ a ++ (name ∷ []) → ⊥
same_names a b name e f =
    let m : length b ≡ length a = ap length e in
    let n : length b ≡ length a + 1 = ap length f ∙ length_push a name in
    omega (arith, m, n)

-- FILE was
pub file_opened : (file : Bytes) (others : List (Named × Bytes)) (told told' : Option Told) (old new : Option Bytes)
    (result : Status) → Tells (Opened file) told told' → (result ≡ status.Unreadable → ⊥)
    → OpensFiles ((File, file) ∷ others) told told' old new result
file_opened file others None None old new result t other = record { count = 1; within = omega arith; first = tt; last = λ e. absurd (other e) }
file_opened file others None (Some b) old new result t other = absurd t
file_opened file others (Some a) None old new result t other = absurd t
file_opened file others (Some a) (Some b) old new result t other = record { count = 1; within = omega arith; first = record { texts = t.texts; opened = t.names }; last = λ e. absurd (other e) }

may_by : (file : Bytes) (others : List (Named × Bytes)) (a b : Told) (old new : Option Bytes) (result : Status) → StopsAt File file (Some a) (Some b) old new result → (b.opened ≡ a.opened) ⊎ (b.opened ≡ a.opened ++ (file ∷ []))
    → OpensFiles ((File, file) ∷ others) (Some a) (Some b) old new result
may_by file others a b old new result s (inl e) = record {
  count = 0;
  within = omega arith;
  first = record { texts = s.names.texts; opened = e ∙ sym (append-nil a.opened) };
  last = λ is. absurd (same_names a.opened b.opened file e (s.opened is).names);
}
may_by file others a b old new result s (inr e) = record { count = 1; within = omega arith; first = record { texts = s.names.texts; opened = e }; last = λ is. s.unreadable is }

-- FILE was, if anything, and its text is refused
pub file_stops : (file : Bytes) (others : List (Named × Bytes)) (told told' : Option Told) (old new : Option Bytes)
    (result : Status) → StopsAt File file told told' old new result
    → OpensFiles ((File, file) ∷ others) told told' old new result
file_stops file others None None old new result s = record { count = 1; within = omega arith; first = tt; last = λ is. s.unreadable is }
file_stops file others None (Some b) old new result s = absurd s.names
file_stops file others (Some a) None old new result s = absurd s.names
file_stops file others (Some a) (Some b) old new result s = may_by file others a b old new result s s.names.names

-- FILE was, and another after it
two_names : (a b c : List Bytes) (file name : Bytes) → b ≡ a ++ (file ∷ []) → c ≡ b ++ (name ∷ []) → c ≡ a ++ (file ∷ name ∷ [])
two_names a b c file name e f = f ∙ ap (λ x. x ++ (name ∷ [])) e ∙ append_assoc a (file ∷ []) (name ∷ [])

module _ (file : Bytes) (other : Named) (name : Bytes) where
  -- the two files
  abbrev both : List (Named × Bytes)
  both = (File, file) ∷ (other, name) ∷ []

  pub both_opened : (told mid told' : Option Told) (old new : Option Bytes) (result : Status)
      → Tells (Opened file) told mid → Tells (Opened name) mid told' → (result ≡ status.Unreadable → ⊥)
      → OpensFiles both told told' old new result
  both_opened None None None old new result t u readable = record { count = 2; within = omega arith; first = tt; last = λ e. absurd (readable e) }
  both_opened None None (Some c) old new result t u readable = absurd u
  both_opened None (Some b) c old new result t u readable = absurd t
  both_opened (Some a) None c old new result t u readable = absurd t
  both_opened (Some a) (Some b) None old new result t u readable = absurd u
  both_opened (Some a) (Some b) (Some c) old new result t u readable =
      record { count = 2; within = omega arith; first = record { texts = u.texts ∙ t.texts; opened = two_names a.opened b.opened c.opened file name t.names u.names }; last = λ e. absurd (readable e) }

  other_by : (a b c : Told) (old new : Option Bytes) (result : Status) → Opened file a b
      → StopsAt other name (Some b) (Some c) old new result → (c.opened ≡ b.opened)
      ⊎ (c.opened ≡ b.opened ++ (name ∷ [])) → OpensFiles both (Some a) (Some c) old new result
  other_by a b c old new result t s (inl e) = record {
    count = 1;
    within = omega arith;
    first = record { texts = s.names.texts ∙ t.texts; opened = e ∙ t.names };
    last = λ is. absurd (same_names b.opened c.opened name e (s.opened is).names);
  }
  other_by a b c old new result t s (inr e) = record {
    count = 2;
    within = omega arith;
    first = record { texts = s.names.texts ∙ t.texts; opened = two_names a.opened b.opened c.opened file name t.names e };
    last = λ is. s.unreadable is;
  }

  -- FILE was, and the other after it, if anything, and its text is refused
  pub other_stops : (told mid told' : Option Told) (old new : Option Bytes) (result : Status)
      → Tells (Opened file) told mid → StopsAt other name mid told' old new result
      → OpensFiles both told told' old new result
  other_stops None None None old new result t s = record { count = 2; within = omega arith; first = tt; last = λ is. s.unreadable is }
  other_stops None None (Some c) old new result t s = absurd s.names
  other_stops None (Some b) c old new result t s = absurd t
  other_stops (Some a) None c old new result t s = absurd t
  other_stops (Some a) (Some b) None old new result t s = absurd s.names
  other_stops (Some a) (Some b) (Some c) old new result t s = other_by a b c old new result t s s.names.names

-- what is so of a text that is told after a file was opened is so of the one told before
pub text_of_before : (IsSo : Bytes → Type 0) (name other : Bytes) (old new : Option Told) → Tells (Opened name) old new → HasText new other IsSo → HasText old other IsSo
text_of_before IsSo name other old new t h = (h.0, text_before name other old new h.0 t h.1, h.2)

-- a stop after a sink that wasn't touched
pub stops_after : (named : Named) (name : Bytes) (told told' : Option Told) (old mid new : SinkView) (result : Status) → mid ≡ old → StopsAt named name told told' mid.taken new.taken result → StopsAt named name told told' old.taken new.taken result
stops_after named name told told' old mid new result same s = subst (λ (v : SinkView). StopsAt named name told told' v.taken new.taken result) same s

-- and what is refused after it, and after files of which no fault was counted
pub refused_before : (May : Type 0 → Option Bytes → Status → Bytes → Type 0) (told mid : Option Told) (file name : Bytes) {before between : ℕ} (after : ℕ) {old then : SinkView} (new : SinkView) (result : Status)
    → Tells (Opened file) told mid → (between ≡ before) × (then ≡ old)
    → HasRead mid name (λ read. PutsOutWith (OrFront (May (Rose between after) read)) then new result)
    → HasRead told name (λ read. PutsOutWith (OrFront (May (Rose before after) read)) old new result)
refused_before May told mid file name {before = before} {between = between} after {old = old} new result t quiet h =
    let p = h.2 in
    let q = subst (λ (v : SinkView). PutsOutWith (OrFront (May (Rose between after) h.0)) v new result) quiet.1 p in
    (h.0, read_before file name told mid h.0 t h.1, subst (λ (n : ℕ). PutsOutWith (OrFront (May (Rose n after) h.0)) old new result) quiet.0 q)
