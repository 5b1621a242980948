-- From what goes out of a certificate to the answer, and what the answer says of the task.
use Rattle.std.proofs.Common.{◌≡◌, subst, inl, inr, ℕ, ◌≤◌, List, length, Option, Some, None}
use Rattle.symk_io.specs.View.{Bytes, SinkView, Told}
use Rattle.symk_task.specs.declared.parts.TaskParts.{TaskParts}
use Rattle.certificates.specs.Meaning.{Named}
use Rattle.certificates.proofs.NoPlan.{no_plan}
use Rattle.cert_run.specs.Proofs.{Proves, Refutes, IsUnsolvable}
use Rattle.run_status.specs.declared.status.Status.{Status}
use Rattle.run_status.specs.declared.status.Status.TheVariants as status
use Rattle.run_status.specs.Ends.{AsOne, OrFront, PutsOutWith}
use Rattle.symk_cli.specs.declared.reading.Named.TheVariants.{Cert}
use Rattle.symk_cli.specs.Wishes.{Wish, lists, continues, checks, shows, proves, refutes}
use Rattle.symk_cli.specs.Refusals.{most_bytes, IsTaskText, TextRefused, FileRefused}
use Rattle.symk_cli.specs.Certs.{BothAre, StatesUnsolvable, IsCertSettled}
use Rattle.symk_cli.specs.Named.{IsToldText, HasText, HasRead}
use Rattle.symk_cli.specs.Answer.{Whole, Answer, AreTexts, Certifies, Answered}
use Rattle.symk_cli.proofs.Answering.{front_answered}

-- The task has no plan.

pub both_not : (F C : Option Bytes) (Never : TaskParts → Bytes → Type 0) → ((task : TaskParts) (bytes : Bytes) → Never task bytes → ⊥) → BothAre F C Never → ⊥
both_not None C Never f b = b
both_not (Some F) None Never f b = b.2
both_not (Some F) (Some C) Never f b = let last = b.2 in f b.0 C last.1

unsolvable : (task : TaskParts) (C out : Bytes) (F : Bytes) → IsTaskText F task → Refutes task C status.Refuted out → IsUnsolvable task
unsolvable task C out F t r p is = let judged = r.0 in no_plan task (Named task judged.0) p t.file.fits judged.2 is

by_proof : (told : Option Told) (file : Bytes) (F : Option Bytes) (out : Bytes) → AreTexts told (Some (proves file)) F None → Certifies (Some (proves file)) F None status.Proved out → StatesUnsolvable told file
by_proof told file None out t c = absurd c
by_proof told file (Some F) out t c = let proof = c.2 in (F, t, (c.0, c.1, proof.1))

by_cert : (told : Option Told) (file cert : Bytes) (F C : Option Bytes) (out : Bytes) → AreTexts told (Some (refutes file cert)) F C → Certifies (Some (refutes file cert)) F C status.Refuted out → StatesUnsolvable told file
by_cert told file cert None C out t c = absurd c
by_cert told file cert (Some F) None out t c = absurd c.2
by_cert told file cert (Some F) (Some C) out t c = let last = c.2 in (F, t.0, (c.0, c.1, unsolvable c.0 C out F c.1 last.1))

settled_by_proof : (asked : Option Wish) (told : Option Told) (F C : Option Bytes) (out : Bytes)
    → AreTexts told asked F C → Certifies asked F C status.Proved out → IsCertSettled asked told
settled_by_proof None told F C out t c = c
settled_by_proof (Some (lists ask)) told F C out t c = c
settled_by_proof (Some (continues ask)) told F C out t c = c
settled_by_proof (Some (checks file plans mode)) told F C out t c = c
settled_by_proof (Some (shows number)) told F C out t c = c
settled_by_proof (Some (proves file)) told F C out t c = by_proof told file F out t c
settled_by_proof (Some (refutes file cert)) told F C out t c = absurd (both_not F C (λ task bytes. ⊥) (λ task bytes n. n) c)

settled_by_cert : (asked : Option Wish) (told : Option Told) (F C : Option Bytes) (out : Bytes)
    → AreTexts told asked F C → Certifies asked F C status.Refuted out → IsCertSettled asked told
settled_by_cert None told F C out t c = c
settled_by_cert (Some (lists ask)) told F C out t c = c
settled_by_cert (Some (continues ask)) told F C out t c = c
settled_by_cert (Some (checks file plans mode)) told F C out t c = c
settled_by_cert (Some (shows number)) told F C out t c = c
settled_by_cert (Some (proves file)) told None C out t c = absurd c
settled_by_cert (Some (proves file)) told (Some F) C out t c = absurd c.2
settled_by_cert (Some (refutes file cert)) told F C out t c = by_cert told file cert F C out t c

module _ (rose : Type 0) where
  -- FILE is refused
  refused_proves : (file : Bytes) (F P : Option Bytes) (result : Status) (pieces : List Bytes) → AsOne (FileRefused rose F) result pieces → Whole rose (Some (proves file)) F P result pieces
  refused_proves file F P status.Unreadable pieces m = m
  refused_proves file F P status.TooLong pieces m = m
  refused_proves file F P status.Offending pieces m = m
  refused_proves file F P result pieces m = absurd m.2

  pub proves_refused : (told : Option Told) (file : Bytes) (old new : SinkView) (result : Status)
      → HasRead told file (λ F. PutsOutWith (OrFront (FileRefused rose F)) old new result)
      → Answered rose (Some (proves file)) told old new result
  proves_refused told file old new result h = front_answered rose (Some (proves file)) told h.0 None (FileRefused rose h.0) old new result (refused_proves file h.0 None) h.1 h.2

  refused_refutes : (file cert : Bytes) (F C : Option Bytes) (result : Status) (pieces : List Bytes) → AsOne (FileRefused rose F) result pieces → Whole rose (Some (refutes file cert)) F C result pieces
  refused_refutes file cert F C status.Unreadable pieces m = (m.0, m.1, inl m.2)
  refused_refutes file cert F C status.TooLong pieces m = (m.0, m.1, inl m.2)
  refused_refutes file cert F C status.Offending pieces m = (m.0, m.1, inl m.2)
  refused_refutes file cert F C result pieces m = absurd m.2

  pub refutes_refused : (told : Option Told) (file cert : Bytes) (old new : SinkView) (result : Status)
      → HasRead told file (λ F. PutsOutWith (OrFront (FileRefused rose F)) old new result)
      → Answered rose (Some (refutes file cert)) told old new result
  refutes_refused told file cert old new result h =
      front_answered rose (Some (refutes file cert)) told h.0 None (FileRefused rose h.0) old new result (refused_refutes file cert h.0 None) (h.1, tt) h.2

  -- a certificate is put, or that there is a plan
  proof_whole : (file F : Bytes) (task : TaskParts) → IsTaskText F task → (result : Status) (pieces : List Bytes) → AsOne (Proves task) result pieces → Whole rose (Some (proves file)) (Some F) None result pieces
  proof_whole file F task t status.Proved pieces v = (v.0, v.1, (task, t, v.2))
  proof_whole file F task t status.HasPlan pieces v = (v.0, v.1, (task, t, v.2))
  proof_whole file F task t result pieces v = absurd v.2

  pub proves_answered : (told : Option Told) (file : Bytes) (task : TaskParts) (old new : SinkView) (result : Status)
      → HasText told file (λ F. IsTaskText F task) → PutsOutWith (OrFront (Proves task)) old new result
      → Answered rose (Some (proves file)) told old new result
  proves_answered told file task old new result f p = front_answered rose (Some (proves file)) told (Some f.0) None (Proves task) old new result (proof_whole file f.0 task f.2) f.1 p

  -- CERT is refused
  cert_whole : (file cert F : Bytes) (C : Option Bytes) (task : TaskParts) → IsTaskText F task → (result : Status) (pieces : List Bytes) → AsOne (TextRefused rose Cert C) result pieces → Whole rose (Some (refutes file cert)) (Some F) C result pieces
  cert_whole file cert F C task t status.Unreadable pieces m = (m.0, m.1, inr ((task, t), m.2))
  cert_whole file cert F C task t status.TooLong pieces m = (m.0, m.1, inr ((task, t), m.2))
  cert_whole file cert F C task t result pieces m = absurd m.2

  pub cert_refused : (told : Option Told) (file cert : Bytes) (task : TaskParts) (old new : SinkView)
      (result : Status) → HasText told file (λ F. IsTaskText F task)
      → HasRead told cert (λ C. PutsOutWith (OrFront (TextRefused rose Cert C)) old new result)
      → Answered rose (Some (refutes file cert)) told old new result
  cert_refused told file cert task old new result f p =
      front_answered rose (Some (refutes file cert)) told (Some f.0) p.0 (TextRefused rose Cert p.0) old new result (cert_whole file cert f.0 p.0 task f.2) (f.1, p.1) p.2

  -- it is judged, or a line of it offends
  verdict_whole : (file cert F C : Bytes) (task : TaskParts) → IsTaskText F task → length C ≤ most_bytes → (result : Status) (pieces : List Bytes) → AsOne (Refutes task C) result pieces → Whole rose (Some (refutes file cert)) (Some F) (Some C) result pieces
  verdict_whole file cert F C task t short status.Refuted pieces v = (v.0, v.1, (task, t, (short, v.2)))
  verdict_whole file cert F C task t short status.NotShown pieces v = (v.0, v.1, (task, t, (short, v.2)))
  verdict_whole file cert F C task t short status.Offending pieces v = (v.0, v.1, inr (task, t, (short, v.2)))
  verdict_whole file cert F C task t short result pieces v = absurd v.2

  pub refutes_answered : (told : Option Told) (file cert : Bytes) (task : TaskParts) (C : Bytes) {old new : SinkView} {result : Status} → HasText told file (λ F. IsTaskText F task) → IsToldText told cert C
      → length C ≤ most_bytes
      → PutsOutWith (OrFront (Refutes task C)) old new result → Answered rose (Some (refutes file cert)) told old new result
  refutes_answered told file cert task C {old = old} {new = new} {result = result} f known short p =
      front_answered rose (Some (refutes file cert)) told (Some f.0) (Some C) (Refutes task C) old new result (verdict_whole file cert f.0 C task f.2 short) (f.1, known) p

  pub proved_settles : (asked : Option Wish) (told : Option Told) (old new : SinkView) (result : Status)
      → Answered rose asked told old new result → result ≡ status.Proved → IsCertSettled asked told
  proved_settles asked told old new result a e =
      let answer = subst (λ s. Answer rose asked a.F a.P s a.out) e a.answer in
      settled_by_proof asked told a.F a.P answer.0.0 a.texts answer.0.2

  pub refuted_settles : (asked : Option Wish) (told : Option Told) (old new : SinkView) (result : Status)
      → Answered rose asked told old new result → result ≡ status.Refuted → IsCertSettled asked told
  refuted_settles asked told old new result a e =
      let answer = subst (λ s. Answer rose asked a.F a.P s a.out) e a.answer in
      settled_by_cert asked told a.F a.P answer.0.0 a.texts answer.0.2
