-- Texts that go out as one piece, whole or in part.
use Rattle.std.proofs.Common.{◌≡◌, refl, sym, subst, inl, inr, ◌⊎◌, List, [], ◌∷◌, take, Result, Ok, Err, MatchResult, IfOk}
use Rattle.symk_io.specs.View.{Bytes, SinkView}
use Rattle.run_status.specs.Sent.{Sent, nothing, TookFront}
use Rattle.run_status.specs.Ends.{EndsWithText, FrontOf, AsOne, OrFront, PutsOutWith}
use Rattle.run_status.specs.declared.status.Status.{Status}
use Rattle.run_status.specs.declared.status.Status.TheVariants.{Reached, MoreLeft, Good, Shown, Proved, Refuted, Exhausted, BadList, Bounded, Gap, HasPlan, NotShown, Offending, Usage, TooLong, Unreadable, WriteFault, CostRange, Memory}
use Rattle.run_status.proofs.Took.{all_of, took_nothing, took_piece, took_front, front_of_all, front_of_last}

-- a text that may come with a status
pub or_front : (May : Status → Bytes → Type 0) (status : Status) (text : Bytes) → May status text → OrFront May status (all_of (text ∷ []))
or_front May Reached text m = ((text, refl, m), refl)
or_front May MoreLeft text m = ((text, refl, m), refl)
or_front May Good text m = ((text, refl, m), refl)
or_front May Shown text m = ((text, refl, m), refl)
or_front May Proved text m = ((text, refl, m), refl)
or_front May Refuted text m = ((text, refl, m), refl)
or_front May Exhausted text m = ((text, refl, m), refl)
or_front May BadList text m = ((text, refl, m), refl)
or_front May Bounded text m = ((text, refl, m), refl)
or_front May Gap text m = ((text, refl, m), refl)
or_front May HasPlan text m = ((text, refl, m), refl)
or_front May NotShown text m = ((text, refl, m), refl)
or_front May Offending text m = ((text, refl, m), refl)
or_front May Usage text m = ((text, refl, m), refl)
or_front May TooLong text m = ((text, refl, m), refl)
or_front May Unreadable text m = ((text, refl, m), refl)
or_front May CostRange text m = ((text, refl, m), refl)
or_front May WriteFault text m = inr (WriteFault, text ∷ [], (text, refl, m), front_of_all (text ∷ []))
or_front May Memory text m = inr (Memory, text ∷ [], (text, refl, m), front_of_all (text ∷ []))

-- what may come with a status of one kind may come with it of another
front_ofs : (May Other : Status → Bytes → Type 0) → ((status : Status) (pieces : List Bytes) → AsOne May status pieces
    → AsOne Other status pieces) → (out : Sent) → FrontOf (AsOne May) out → FrontOf (AsOne Other) out
front_ofs May Other also out (inl none) = inl none
front_ofs May Other also out (inr f) = inr (f.0, f.1, also f.0 f.1 f.2, f.3)

pub or_fronts : (May Other : Status → Bytes → Type 0) → ((status : Status) (pieces : List Bytes) → AsOne May status
    pieces → AsOne Other status pieces) → (result : Status) (out : Sent) → OrFront May result out
    → OrFront Other result out
or_fronts May Other also WriteFault out f = front_ofs May Other also out f
or_fronts May Other also Memory out f = front_ofs May Other also out f
or_fronts May Other also Reached out m = (also Reached out.pieces m.0, m.1)
or_fronts May Other also MoreLeft out m = (also MoreLeft out.pieces m.0, m.1)
or_fronts May Other also Good out m = (also Good out.pieces m.0, m.1)
or_fronts May Other also Shown out m = (also Shown out.pieces m.0, m.1)
or_fronts May Other also Proved out m = (also Proved out.pieces m.0, m.1)
or_fronts May Other also Refuted out m = (also Refuted out.pieces m.0, m.1)
or_fronts May Other also Exhausted out m = (also Exhausted out.pieces m.0, m.1)
or_fronts May Other also BadList out m = (also BadList out.pieces m.0, m.1)
or_fronts May Other also Bounded out m = (also Bounded out.pieces m.0, m.1)
or_fronts May Other also Gap out m = (also Gap out.pieces m.0, m.1)
or_fronts May Other also HasPlan out m = (also HasPlan out.pieces m.0, m.1)
or_fronts May Other also NotShown out m = (also NotShown out.pieces m.0, m.1)
or_fronts May Other also Offending out m = (also Offending out.pieces m.0, m.1)
or_fronts May Other also Usage out m = (also Usage out.pieces m.0, m.1)
or_fronts May Other also TooLong out m = (also TooLong out.pieces m.0, m.1)
or_fronts May Other also Unreadable out m = (also Unreadable out.pieces m.0, m.1)
or_fronts May Other also CostRange out m = (also CostRange out.pieces m.0, m.1)

-- a front of it, where the sink failed or memory ran out
pub broken : (May : Status → Bytes → Type 0) (result : Status) (out : Sent) → (result ≡ WriteFault)
    ⊎ (result ≡ Memory) → FrontOf (AsOne May) out → OrFront May result out
broken May result out (inl e) f = subst (λ s. OrFront May s out) (sym e) f
broken May result out (inr e) f = subst (λ s. OrFront May s out) (sym e) f

pub part_puts : (May : Status → Bytes → Type 0) (status : Status) (text : Bytes) (old new : SinkView)
    (result : Status) → May status text → (result ≡ WriteFault) ⊎ (result ≡ Memory) → TookFront text old new
    → PutsOutWith (OrFront May) old new result
part_puts May status text old new result m why took =
    let p = took_front text old new took in
    let front : FrontOf (AsOne May) (record { pieces = []; rest = take p.0 text }) =
    inr (status, text ∷ [], (text, refl, m), front_of_last [] text p.0 _ refl) in
    (record { pieces = []; rest = take p.0 text }, p.1, broken May result _ why front)

-- the text that ends the run
pub end_puts : (May : Status → Bytes → Type 0) (status : Status) (text : Bytes) (old new : SinkView) (result : Status)
    → May status text → EndsWithText status text old new result → PutsOutWith (OrFront May) old new result
end_puts May status text old new result m (inl h) = (
  all_of (text ∷ []),
  took_piece text old new h.1,
  subst
      (λ s. OrFront May s (all_of (text ∷ []))) (sym h.0) (or_front May status text m),
)
end_puts May status text old new result m (inr (inl h)) = part_puts May status text old new result m (inl h.0) h.1
end_puts May status text old new result m (inr (inr h)) = part_puts May status text old new result m (inr h.0) h.1

-- nothing, when out of memory
pub nothing_puts : (May : Status → Bytes → Type 0) (old : SinkView) → PutsOutWith (OrFront May) old old Memory
nothing_puts May old = (nothing, took_nothing old, inl refl)

-- the text, if it was made
pub made_puts : {E : Type 0} (May : Status → Bytes → Type 0) (status : Status) (made : Result Bytes E)
    (old new : SinkView) (result : Status) → IfOk made (λ text. May status text)
    → MatchResult made (λ text. EndsWithText status text old new result) (λ _. (result ≡ Memory) × (new ≡ old))
    → PutsOutWith (OrFront May) old new result
made_puts May status (Ok text) old new result m h = end_puts May status text old new result m h
made_puts May status (Err e) old new result m h =
    let stayed : PutsOutWith (OrFront May) old new Memory = subst (λ (v : SinkView). PutsOutWith (OrFront May) old v Memory) (sym h.1) (nothing_puts May old) in
    subst (λ s. PutsOutWith (OrFront May) old new s) (sym h.0) stayed

pub text_puts : {E : Type 0} (May : Status → Bytes → Type 0) (status : Status) (made : Result Bytes E) (whole : Bytes)
    (old new : SinkView) (result : Status) → IfOk made (λ text. text ≡ whole) → May status whole
    → MatchResult made (λ text. EndsWithText status text old new result) (λ _. (result ≡ Memory) × (new ≡ old))
    → PutsOutWith (OrFront May) old new result
text_puts May status (Ok text) whole old new result e m h = end_puts May status text old new result (subst (λ t. May status t) (sym e) m) h
text_puts May status (Err e') whole old new result e m h = made_puts May status (Err e') old new result tt h

-- what went out after a sink that wasn't touched
pub puts_after : (May : Status → Sent → Type 0) (old mid new : SinkView) (result : Status) → mid ≡ old
    → PutsOutWith May mid new result → PutsOutWith May old new result
puts_after May old mid new result same p = subst (λ (v : SinkView). PutsOutWith May v new result) same p
