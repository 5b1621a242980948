-- Texts that are refused.
use Rattle.std.proofs.Common.{◌≡◌, ap, sym, refl, subst, ℕ, ◌<◌, ◌≤◌, List, length, Option, Some, None, IsSome, IfSome, Result, Err, IsErrOf, MatchResult, IfOk}
use Rattle.symk_io.specs.View.{Bytes, SinkView, Told}
use Rattle.symk_io.specs.Told.{IsTextOf, IsNamed}
use Rattle.symk_io.specs.declared.fault.ReadStop.{ReadStop}
use Rattle.symk_io.specs.declared.fault.ReadStop.TheVariants as stops
use Rattle.symk_text.specs.Lines.{lines}
use Rattle.sas_reader.specs.declared.fault.Shape.{Shape}
use Rattle.sas_reader.specs.declared.fault.ReadFault.TheVariants as read
use Rattle.sas_reader.specs.Refused.{RefusedAt}
use Rattle.plan_out.specs.declared.read.PlansFault.TheVariants as plans
use Rattle.plan_out.specs.Refused.{PlansRefusedAt}
use Rattle.symk_cli.specs.declared.reading.Named.{Named}
use Rattle.symk_cli.specs.declared.reading.Named.TheVariants as named
use Rattle.run_status.specs.declared.status.Status.{Status}
use Rattle.run_status.specs.declared.status.Status.TheVariants as status
use Rattle.run_status.specs.Ends.{EndsWithText, AsOne, OrFront, PutsOutWith}
use Rattle.symk_cli.specs.Refusals.{most_bytes, TextRefused, FileRefused, unreadable_text, too_long_text, offence_text, plans_offence_text}
use Rattle.symk_cli.specs.Plans.{PlansRefused}
use Rattle.symk_cli.specs.Named.{IsToldText, HasRead}
use Rattle.run_status.proofs.Puts.{or_fronts, end_puts, nothing_puts, text_puts}

named_some : (o : Option Bytes) (text : Bytes) → IfSome o (λ t. t ≡ text) → IsSome o → o ≡ Some text
named_some None text is some = absurd (cc)
named_some (Some t) text is some = ap (λ (x : Bytes). Some x) is

-- the text of a name that has one is the one told
pub told_text : (told : Option Told) (name text : Bytes) → IsTextOf told name text → IsNamed told name → IsToldText told name text
told_text None name text is named = tt
told_text (Some t) name text is named = named_some (t.text name) text is named

-- a stop of reading that is no other
pub not_unreadable : (T : Type 0) (stop : ReadStop) → stop ≡ stops.TooLong → IsErrOf {T = T} (Err stop) stops.Unreadable → ⊥
not_unreadable T stop is e = let bad : stops.TooLong ≡ stops.Unreadable = cc in absurd (cc)

pub not_memory : (T : Type 0) (stop : ReadStop) → stop ≡ stops.TooLong → IsErrOf {T = T} (Err stop) stops.Memory → ⊥
not_memory T stop is e = let bad : stops.TooLong ≡ stops.Memory = cc in absurd (cc)

-- F is what was read of the file of this name, no longer than it may be, and no sink was touched
pub record IsReadUntouched (told : Option Told) (name F : Bytes) (old mid : SinkView) : Type 0 where
  pub untouched : mid ≡ old
  pub text : IsToldText told name F
  pub short : length F ≤ most_bytes

-- out of memory, after a sink that wasn't touched
pub memory_after : (May : Option Bytes → Status → Bytes → Type 0) (told : Option Told) (name : Bytes)
    (old new : SinkView) → new ≡ old → HasRead told name
    (λ read. PutsOutWith (OrFront (May read)) old new status.Memory)
memory_after May told name old new same = (
  None,
  tt,
  subst (λ (v : SinkView). PutsOutWith
      (OrFront (May None)) old v status.Memory) (sym same) (nothing_puts (May None) old),
)

module _ (rose : Type 0) where
  -- a text that can't be read
  pub unreadable_refused : (told : Option Told) (name : Bytes) (named : Named) (text : Bytes) (old new : SinkView)
      (result : Status) → rose → text ≡ unreadable_text named → EndsWithText status.Unreadable text old new result
      → HasRead told name (λ read. PutsOutWith (OrFront (TextRefused rose named read)) old new result)
  unreadable_refused told name named text old new result r e ends = (None, tt, end_puts (TextRefused rose named None) status.Unreadable text old new result (r, e) ends)

  -- one that is too long
  pub long_refused : (told : Option Told) (name : Bytes) (named : Named) (text : Bytes) (old new : SinkView)
      (result : Status) → (F : Bytes) × (most_bytes < length F) × IsTextOf told name F → IsNamed told name
      → text ≡ too_long_text named → EndsWithText status.TooLong text old new result
      → HasRead told name (λ read. PutsOutWith (OrFront (TextRefused rose named read)) old new result)
  long_refused told name named text old new result F has e ends = (Some F.0, told_text told name F.0 F.2 has, end_puts (TextRefused rose named (Some F.0)) status.TooLong text old new result (F.1, e) ends)

  -- out of memory
  pub memory_refused : (told : Option Told) (name : Bytes) (named : Named) (old : SinkView)
      → HasRead told name (λ read. PutsOutWith (OrFront (TextRefused rose named read)) old old status.Memory)
  memory_refused told name named old = (None, tt, nothing_puts (TextRefused rose named None) old)

  -- a text that is refused as such is no task file, and no plan text
  text_is_file : (F : Option Bytes) (result : Status) (pieces : List Bytes) → AsOne (TextRefused rose named.File F) result pieces → AsOne (FileRefused rose F) result pieces
  text_is_file F status.Offending pieces m = absurd m.2
  text_is_file F result pieces m = m

  text_is_plans : (P : Option Bytes) (result : Status) (pieces : List Bytes) → AsOne (TextRefused rose named.Plans P) result pieces → AsOne (PlansRefused rose P) result pieces
  text_is_plans P status.Offending pieces m = absurd m.2
  text_is_plans P result pieces m = m

  pub file_refused : (told : Option Told) (name : Bytes) (old new : SinkView) (result : Status)
      → HasRead told name (λ read. PutsOutWith (OrFront (TextRefused rose named.File read)) old new result)
      → HasRead told name (λ read. PutsOutWith (OrFront (FileRefused rose read)) old new result)
  file_refused told name old new result h = let p = h.2 in (h.0, h.1, (p.0, p.1, or_fronts (TextRefused rose named.File h.0) (FileRefused rose h.0) (text_is_file h.0) result p.0 p.2))

  pub plans_refused_too : (told : Option Told) (name : Bytes) (old new : SinkView) (result : Status)
      → HasRead told name (λ read. PutsOutWith (OrFront (TextRefused rose named.Plans read)) old new result)
      → HasRead told name (λ read. PutsOutWith (OrFront (PlansRefused rose read)) old new result)
  plans_refused_too told name old new result h = let p = h.2 in (h.0, h.1, (p.0, p.1, or_fronts (TextRefused rose named.Plans h.0) (PlansRefused rose h.0) (text_is_plans h.0) result p.0 p.2))

  -- a line that offends
  pub file_offends : {E : Type 0} (told : Option Told) (name F : Bytes) (line : ℕ) (wanted : Shape) {old mid new : SinkView} (made : Result Bytes E) (result : Status)
      → IsReadUntouched told name F old mid → RefusedAt (lines F) (read.Offence line wanted) → IfOk made (λ text. text ≡ offence_text line wanted)
      → MatchResult made (λ text. EndsWithText status.Offending text mid new result)
      (λ _. (result ≡ status.Memory) × (new ≡ mid))
      → HasRead told name (λ read. PutsOutWith (OrFront (FileRefused rose read)) old new result)
  file_offends told name F line wanted {mid = mid} {new = new} made result h refused is ends =
      let p = text_puts (FileRefused rose (Some F)) status.Offending made (offence_text line wanted) mid new result is (record { short = h.short; line = line; wanted = wanted; offends = refused; text = refl }) ends in
      (Some F, h.text, subst (λ (v : SinkView). PutsOutWith (OrFront (FileRefused rose (Some F))) v new result) h.untouched p)

  pub plans_offend : {E : Type 0} (told : Option Told) (name P : Bytes) (line : ℕ) {old mid new : SinkView} (made : Result Bytes E) (result : Status)
      → IsReadUntouched told name P old mid → PlansRefusedAt (lines P) (plans.Offence line) → IfOk made (λ text. text ≡ plans_offence_text line)
      → MatchResult made (λ text. EndsWithText status.Offending text mid new result)
      (λ _. (result ≡ status.Memory) × (new ≡ mid))
      → HasRead told name (λ read. PutsOutWith (OrFront (PlansRefused rose read)) old new result)
  plans_offend told name P line {mid = mid} {new = new} made result h refused is ends =
      let p = text_puts (PlansRefused rose (Some P)) status.Offending made (plans_offence_text line) mid new result is (record { short = h.short; line = line; offends = refused; text = refl }) ends in
      (Some P, h.text, subst (λ (v : SinkView). PutsOutWith (OrFront (PlansRefused rose (Some P))) v new result) h.untouched p)
