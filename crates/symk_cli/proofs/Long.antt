-- Which texts are too long, from the answer.
use Rattle.std.proofs.Common.{subst, inl, inr, ◌<◌, ◌≤◌, ◌⊎◌, List, length, Option, Some, None, IfSome, IsSomeAnd}
use Rattle.symk_io.specs.View.{Bytes, SinkView, Told}
use Rattle.symk_task.specs.declared.parts.Mode.{Mode}
use Rattle.symk_task.specs.declared.parts.TaskParts.{TaskParts}
use Rattle.plan_out.specs.declared.blocks.ReadBlock.{ReadBlock}
use Rattle.run_status.specs.declared.status.Status.{Status}
use Rattle.run_status.specs.declared.status.Status.TheVariants as status
use Rattle.symk_cli.specs.Wishes.{Ask, Further, Wish, lists, continues, checks, shows, proves, refutes}
use Rattle.symk_cli.specs.Named.{IsToldText, HasText}
use Rattle.symk_cli.specs.Refusals.{most_bytes, IsTaskText, IsTask, FileOffence}
use Rattle.symk_cli.specs.Plans.{IsPlansText, PlansOffence}
use Rattle.symk_cli.specs.Certs.{BothAre}
use Rattle.symk_cli.specs.Verdicts.{Verdict}
use Rattle.cert_run.specs.Proofs.{CertOffence, Proves, Refutes}
use Rattle.plan_run.specs.Reaches.{MayList}
use Rattle.plan_run.specs.Lists.{MayCome}
use Rattle.symk_cli.specs.Goes.{AreGood, aim_from}
use Rattle.symk_cli.specs.Answer.{GoesOnWithPlans, Answer, Answered}
use Rattle.symk_cli.specs.Lengths.{IsShort, IsLong, IsOffending, FileLengths, BothLengths, Lengths}

-- a text that was read is so, and what follows of it
has_text : (told : Option Told) (name : Bytes) (IsSo Other : Bytes → Type 0) (read : Option Bytes) → ((text : Bytes) → IsSo text → Other text) → IfSome read (IsToldText told name) → IsSomeAnd read IsSo → HasText told name Other
has_text told name IsSo Other None f t so = absurd so
has_text told name IsSo Other (Some text) f t so = (text, t, f text so)

long_text : (told : Option Told) (name : Bytes) (read : Option Bytes) → IfSome read (IsToldText told name) → IsSomeAnd read (λ text. most_bytes < length text) → IsLong told name
long_text told name read t so = has_text told name (λ text. most_bytes < length text) (λ text. most_bytes < length text) read (λ text h. h) t so

offending_text : (told : Option Told) (name out : Bytes) (read : Option Bytes) → IfSome read (IsToldText told name) → IsSomeAnd read (λ text. FileOffence text out) → IsOffending told name
offending_text told name out read t so = has_text told name (λ text. FileOffence text out) (λ text. (out : Bytes) × FileOffence text out) read (λ text h. (out, h)) t so

short_task : (told : Option Told) (name : Bytes) (read : Option Bytes) → IfSome read (IsToldText told name) → IsTask read → IsShort told name
short_task told name read t so = has_text told name (λ text. (task : TaskParts) × IsTaskText text task) (λ text. length text ≤ most_bytes) read (λ text h. h.1.short) t so

short_listed : (told : Option Told) (name : Bytes) (More : TaskParts → Type 0) (read : Option Bytes) → IfSome read (IsToldText told name) → IsSomeAnd read (λ text. (task : TaskParts) × IsTaskText text task × More task) → IsShort told name
short_listed told name More read t so = has_text told name (λ text. (task : TaskParts) × IsTaskText text task × More task) (λ text. length text ≤ most_bytes) read (λ text h. h.1.short) t so

short_offence : (told : Option Told) (name out : Bytes) (read : Option Bytes) → IfSome read (IsToldText told name) → IsSomeAnd read (λ text. PlansOffence text out) → IsShort told name
short_offence told name out read t so = has_text told name (λ text. PlansOffence text out) (λ text. length text ≤ most_bytes) read (λ text h. h.short) t so

short_plans : (told : Option Told) (name : Bytes) (More : List ReadBlock → Type 0) (read : Option Bytes) → IfSome read (IsToldText told name) → IsSomeAnd read (λ text. (blocks : List ReadBlock) × IsPlansText text blocks × More blocks) → IsShort told name
short_plans told name More read t so = has_text told name (λ text. (blocks : List ReadBlock) × IsPlansText text blocks × More blocks) (λ text. length text ≤ most_bytes) read (λ text h. h.1.short) t so

short_good : (told : Option Told) (name : Bytes) (mode : Mode) (task : TaskParts) (More : List ReadBlock → Type 0) (read : Option Bytes) → IfSome read (IsToldText told name)
    → IsSomeAnd read (λ text. (blocks : List ReadBlock) × IsPlansText text blocks × AreGood task mode blocks × More blocks) → IsShort told name
short_good told name mode task More read t so =
    has_text told name (λ text. (blocks : List ReadBlock) × IsPlansText text blocks × AreGood task mode blocks × More blocks) (λ text. length text ≤ most_bytes) read (λ text h. h.1.short) t so

short_judged : (told : Option Told) (file plans : Bytes) (mode : Mode) (result : Status) (out : Bytes) (F P : Option Bytes) → IfSome F (IsToldText told file) → IfSome P (IsToldText told plans)
    → IsSomeAnd F (λ text. (task : TaskParts) × IsTaskText text task × IsSomeAnd P (λ other. (blocks : List ReadBlock) × IsPlansText other blocks × Verdict task mode blocks result out)) → IsShort told file × IsShort told plans
short_judged told file plans mode result out None P f p so = absurd so
short_judged told file plans mode result out (Some text) P f p so =
    ((text, f, so.1.short), short_plans told plans (λ blocks. Verdict so.0 mode blocks result out) P p so.2)

long_of_two : (told : Option Told) (file plans : Bytes) (A B : Type 0) (F P : Option Bytes) → IfSome F (IsToldText told file) → IfSome P (IsToldText told plans)
    → (IsSomeAnd F (λ text. most_bytes < length text) × A) ⊎ (IsTask F × (IsSomeAnd P (λ text. most_bytes < length text) × B)) → IsLong told file ⊎ (IsShort told file × IsLong told plans)
long_of_two told file plans A B F P f p (inl h) = inl (long_text told file F f h.0)
long_of_two told file plans A B F P f p (inr h) = let long = h.1.0 in inr (short_task told file F f h.0, long_text told plans P p long)

offence_of_two : (told : Option Told) (file plans out : Bytes) (F P : Option Bytes) → IfSome F (IsToldText told file) → IfSome P (IsToldText told plans)
    → IsSomeAnd F (λ text. FileOffence text out) ⊎ (IsTask F × IsSomeAnd P (λ text. PlansOffence text out)) → IsOffending told file ⊎ (IsShort told file × IsShort told plans)
offence_of_two told file plans out F P f p (inl h) = inl (offending_text told file out F f h)
offence_of_two told file plans out F P f p (inr h) = inr (short_task told file F f h.0, short_offence told plans out P p h.1)

short_going : (told : Option Told) (file plans : Bytes) (mode : Mode) (More : TaskParts → List ReadBlock → Type 0)
    (F P : Option Bytes) → IfSome F (IsToldText told file) → IfSome P (IsToldText told plans)
    → GoesOnWithPlans F P mode More
    → IsShort told file × IsShort told plans
short_going told file plans mode More None P f p so = absurd so
short_going told file plans mode More (Some text) P f p so = ((text, f, so.1.short), short_good told plans mode so.0 (More so.0) P p so.2)

short_both : (told : Option Told) (file cert : Bytes) (AreSo : TaskParts → Bytes → Type 0) (F C : Option Bytes) → IfSome F (IsToldText told file) → IfSome C (IsToldText told cert) → BothAre F C AreSo → IsShort told file × IsShort told cert
short_both told file cert AreSo None C f c so = absurd so
short_both told file cert AreSo (Some F) None f c so = absurd so.2
short_both told file cert AreSo (Some F) (Some C) f c so = let last = so.2 in ((F, f, so.1.short), (C, c, last.0))

offence_of_both : (told : Option Told) (file cert out : Bytes) (F C : Option Bytes) → IfSome F (IsToldText told file) → IfSome C (IsToldText told cert)
    → IsSomeAnd F (λ text. FileOffence text out) ⊎ BothAre F C (λ task bytes. CertOffence task bytes out) → IsOffending told file ⊎ (IsShort told file × IsShort told cert)
offence_of_both told file cert out F C f c (inl h) = inl (offending_text told file out F f h)
offence_of_both told file cert out F C f c (inr h) = inr (short_both told file cert (λ task bytes. CertOffence task bytes out) F C f c h)

module _ (rose : Type 0) where
  plan_lengths : (told : Option Told) (ask : Ask) (old new : SinkView) (result : Status) → Answered rose (Some (lists ask)) told old new result → FileLengths told ask.file result
  plan_lengths told ask old new status.TooLong a = long_text told ask.file a.F a.texts a.answer.0.2.0
  plan_lengths told ask old new status.Offending a = offending_text told ask.file a.answer.0.0 a.F a.texts a.answer.0.2
  plan_lengths told ask old new status.Reached a = short_listed told ask.file (λ task. MayList task ask.mode ask.wanted ask.reach status.Reached a.out.pieces) a.F a.texts a.answer.0
  plan_lengths told ask old new status.MoreLeft a = short_listed told ask.file (λ task. MayList task ask.mode ask.wanted ask.reach status.MoreLeft a.out.pieces) a.F a.texts a.answer.0
  plan_lengths told ask old new status.Bounded a = short_listed told ask.file (λ task. MayList task ask.mode ask.wanted ask.reach status.Bounded a.out.pieces) a.F a.texts a.answer.0
  plan_lengths told ask old new status.Exhausted a = short_listed told ask.file (λ task. MayList task ask.mode ask.wanted ask.reach status.Exhausted a.out.pieces) a.F a.texts a.answer.0
  plan_lengths told ask old new status.CostRange a = short_listed told ask.file (λ task. MayList task ask.mode ask.wanted ask.reach status.CostRange a.out.pieces) a.F a.texts a.answer.0
  plan_lengths told ask old new status.Gap a = short_listed told ask.file (λ task. MayList task ask.mode ask.wanted ask.reach status.Gap a.out.pieces) a.F a.texts a.answer.0
  plan_lengths told ask old new status.Usage a = tt
  plan_lengths told ask old new status.Unreadable a = tt
  plan_lengths told ask old new status.WriteFault a = tt
  plan_lengths told ask old new status.Memory a = tt
  plan_lengths told ask old new result a = absurd a.answer.0.2

  check_lengths : (told : Option Told) (file plans : Bytes) (mode : Mode) (old new : SinkView) (result : Status) → Answered rose (Some (checks file plans mode)) told old new result → BothLengths told file plans result
  check_lengths told file plans mode old new status.TooLong a = long_of_two told file plans _ _ a.F a.P a.texts.0 a.texts.1 a.answer.0.2
  check_lengths told file plans mode old new status.Offending a = offence_of_two told file plans a.answer.0.0 a.F a.P a.texts.0 a.texts.1 a.answer.0.2
  check_lengths told file plans mode old new status.Good a = short_judged told file plans mode status.Good a.answer.0.0 a.F a.P a.texts.0 a.texts.1 a.answer.0.2
  check_lengths told file plans mode old new status.BadList a = short_judged told file plans mode status.BadList a.answer.0.0 a.F a.P a.texts.0 a.texts.1 a.answer.0.2
  check_lengths told file plans mode old new status.Usage a = tt
  check_lengths told file plans mode old new status.Unreadable a = tt
  check_lengths told file plans mode old new status.WriteFault a = tt
  check_lengths told file plans mode old new status.Memory a = tt
  check_lengths told file plans mode old new status.Reached a = absurd a.answer.0
  check_lengths told file plans mode old new status.MoreLeft a = absurd a.answer.0
  check_lengths told file plans mode old new status.Bounded a = absurd a.answer.0
  check_lengths told file plans mode old new status.Exhausted a = absurd a.answer.0
  check_lengths told file plans mode old new status.CostRange a = absurd a.answer.0
  check_lengths told file plans mode old new status.Gap a = absurd a.answer.0
  check_lengths told file plans mode old new result a = absurd a.answer.0.2

  further_lengths : (told : Option Told) (ask : Further) (old new : SinkView) (result : Status) → Answered rose (Some (continues ask)) told old new result → BothLengths told ask.file ask.plans result
  further_lengths told ask old new status.TooLong a = long_of_two told ask.file ask.plans _ _ a.F a.P a.texts.0 a.texts.1 a.answer.0.2
  further_lengths told ask old new status.Offending a = offence_of_two told ask.file ask.plans a.answer.0.0 a.F a.P a.texts.0 a.texts.1 a.answer.0.2
  further_lengths told ask old new status.BadList a = short_judged told ask.file ask.plans ask.mode status.BadList a.answer.0.0 a.F a.P a.texts.0 a.texts.1 a.answer.0.2
  further_lengths told ask old new status.Usage a = tt
  further_lengths told ask old new status.Unreadable a = tt
  further_lengths told ask old new status.WriteFault a = tt
  further_lengths told ask old new status.Memory a = tt
  further_lengths told ask old new status.Reached a = short_going told ask.file ask.plans ask.mode (λ task blocks. MayCome (aim_from task ask.mode ask.wanted blocks) status.Reached a.out.pieces) a.F a.P a.texts.0 a.texts.1 a.answer.0
  further_lengths told ask old new status.MoreLeft a = short_going told ask.file ask.plans ask.mode (λ task blocks. MayCome (aim_from task ask.mode ask.wanted blocks) status.MoreLeft a.out.pieces) a.F a.P a.texts.0 a.texts.1 a.answer.0
  further_lengths told ask old new status.Bounded a = short_going told ask.file ask.plans ask.mode (λ task blocks. MayCome (aim_from task ask.mode ask.wanted blocks) status.Bounded a.out.pieces) a.F a.P a.texts.0 a.texts.1 a.answer.0
  further_lengths told ask old new status.Exhausted a = short_going told ask.file ask.plans ask.mode (λ task blocks. MayCome (aim_from task ask.mode ask.wanted blocks) status.Exhausted a.out.pieces) a.F a.P a.texts.0 a.texts.1 a.answer.0
  further_lengths told ask old new status.CostRange a = short_going told ask.file ask.plans ask.mode (λ task blocks. MayCome (aim_from task ask.mode ask.wanted blocks) status.CostRange a.out.pieces) a.F a.P a.texts.0 a.texts.1 a.answer.0
  further_lengths told ask old new status.Gap a = short_going told ask.file ask.plans ask.mode (λ task blocks. MayCome (aim_from task ask.mode ask.wanted blocks) status.Gap a.out.pieces) a.F a.P a.texts.0 a.texts.1 a.answer.0
  further_lengths told ask old new result a = absurd a.answer.0.2

  prove_lengths : (told : Option Told) (file : Bytes) (old new : SinkView) (result : Status) → Answered rose (Some (proves file)) told old new result → FileLengths told file result
  prove_lengths told file old new status.TooLong a = long_text told file a.F a.texts a.answer.0.2.0
  prove_lengths told file old new status.Offending a = offending_text told file a.answer.0.0 a.F a.texts a.answer.0.2
  prove_lengths told file old new status.Proved a = short_listed told file (λ task. Proves task status.Proved a.answer.0.0) a.F a.texts a.answer.0.2
  prove_lengths told file old new status.HasPlan a = short_listed told file (λ task. Proves task status.HasPlan a.answer.0.0) a.F a.texts a.answer.0.2
  prove_lengths told file old new status.Refuted a = short_listed told file (λ task. Proves task status.Refuted a.answer.0.0) a.F a.texts a.answer.0.2
  prove_lengths told file old new status.NotShown a = short_listed told file (λ task. Proves task status.NotShown a.answer.0.0) a.F a.texts a.answer.0.2
  prove_lengths told file old new status.Usage a = tt
  prove_lengths told file old new status.Unreadable a = tt
  prove_lengths told file old new status.WriteFault a = tt
  prove_lengths told file old new status.Memory a = tt
  prove_lengths told file old new status.Reached a = absurd a.answer.0
  prove_lengths told file old new status.MoreLeft a = absurd a.answer.0
  prove_lengths told file old new status.Bounded a = absurd a.answer.0
  prove_lengths told file old new status.Exhausted a = absurd a.answer.0
  prove_lengths told file old new status.CostRange a = absurd a.answer.0
  prove_lengths told file old new status.Gap a = absurd a.answer.0
  prove_lengths told file old new result a = absurd a.answer.0.2

  refute_lengths : (told : Option Told) (file cert : Bytes) (old new : SinkView) (result : Status) → Answered rose (Some (refutes file cert)) told old new result → BothLengths told file cert result
  refute_lengths told file cert old new status.TooLong a = long_of_two told file cert _ _ a.F a.P a.texts.0 a.texts.1 a.answer.0.2
  refute_lengths told file cert old new status.Offending a = offence_of_both told file cert a.answer.0.0 a.F a.P a.texts.0 a.texts.1 a.answer.0.2
  refute_lengths told file cert old new status.Proved a = short_both told file cert (λ task bytes. Refutes task bytes status.Proved a.answer.0.0) a.F a.P a.texts.0 a.texts.1 a.answer.0.2
  refute_lengths told file cert old new status.HasPlan a = short_both told file cert (λ task bytes. Refutes task bytes status.HasPlan a.answer.0.0) a.F a.P a.texts.0 a.texts.1 a.answer.0.2
  refute_lengths told file cert old new status.Refuted a = short_both told file cert (λ task bytes. Refutes task bytes status.Refuted a.answer.0.0) a.F a.P a.texts.0 a.texts.1 a.answer.0.2
  refute_lengths told file cert old new status.NotShown a = short_both told file cert (λ task bytes. Refutes task bytes status.NotShown a.answer.0.0) a.F a.P a.texts.0 a.texts.1 a.answer.0.2
  refute_lengths told file cert old new status.Usage a = tt
  refute_lengths told file cert old new status.Unreadable a = tt
  refute_lengths told file cert old new status.WriteFault a = tt
  refute_lengths told file cert old new status.Memory a = tt
  refute_lengths told file cert old new status.Reached a = absurd a.answer.0
  refute_lengths told file cert old new status.MoreLeft a = absurd a.answer.0
  refute_lengths told file cert old new status.Bounded a = absurd a.answer.0
  refute_lengths told file cert old new status.Exhausted a = absurd a.answer.0
  refute_lengths told file cert old new status.CostRange a = absurd a.answer.0
  refute_lengths told file cert old new status.Gap a = absurd a.answer.0
  refute_lengths told file cert old new result a = absurd a.answer.0.2

  -- what the answer says of lengths
  pub lengths_of : (asked : Option Wish) (told : Option Told) (old new : SinkView) (result : Status) → Answered rose asked told old new result → Lengths asked told result
  lengths_of None told old new result a = λ e. (subst (λ s. Answer rose None a.F a.P s a.out) e a.answer).0.2
  lengths_of (Some (lists ask)) told old new result a = plan_lengths told ask old new result a
  lengths_of (Some (continues ask)) told old new result a = further_lengths told ask old new result a
  lengths_of (Some (checks file plans mode)) told old new result a = check_lengths told file plans mode old new result a
  lengths_of (Some (shows number)) told old new result a = λ e. (subst (λ s. Answer rose (Some (shows number)) a.F a.P s a.out) e a.answer).0.2
  lengths_of (Some (proves file)) told old new result a = prove_lengths told file old new result a
  lengths_of (Some (refutes file cert)) told old new result a = refute_lengths told file cert old new result a
