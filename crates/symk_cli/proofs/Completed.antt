-- From the answer and the causes: what can't come.
use Rattle.std.proofs.Common.{◌≡◌, ◌≢◌, ◌∙◌, sym, refl, subst, inl, inr, ℕ, ◌+◌, ◌<◌, ◌≤◌, ◌⊎◌, List, ◌++◌, length, take, drop, Option, Some, None, IsSome, IfSome, IsSomeAnd, arith}
use Rattle.std.proofs.lemmas.List.{take-append-drop}
use Rattle.symk_io.specs.View.{Bytes, FilesView, SinkView, Told}
use Rattle.symk_io.specs.Causes.{Rose}
use Rattle.symk_task.specs.declared.parts.Mode.{Mode}
use Rattle.symk_task.specs.declared.parts.TaskParts.{TaskParts}
use Rattle.sas_reader.specs.Format.{IsFileOf}
use Rattle.sas_reader.proofs.Whole.{one_task}
use Rattle.certificates.specs.Texts.{state_width, IsCertOf}
use Rattle.cert_run.specs.Proofs.{CertOffence}
use Rattle.plan_out.specs.declared.blocks.ReadBlock.{ReadBlock}
use Rattle.plan_out.specs.Plans.{IsPlansOf}
use Rattle.symk_text.specs.Lines.{lines}
use Rattle.run_status.specs.declared.status.Status.{Status}
use Rattle.run_status.specs.declared.status.Status.TheVariants as status
use Rattle.run_status.specs.Ends.{HasCauses}
use Rattle.symk_cli.specs.Wishes.{Ask, Further, Wish, lists, continues, checks, shows, proves, refutes, wish_of}
use Rattle.symk_cli.specs.LawfulWords.{AreLawful}
use Rattle.symk_cli.specs.Named.{IsToldText}
use Rattle.symk_cli.specs.Refusals.{most_bytes, IsTaskText, FileOffence}
use Rattle.symk_cli.specs.Plans.{IsPlansText, PlansOffence}
use Rattle.symk_cli.specs.Certs.{IsCertText, BothAre}
use Rattle.symk_cli.specs.Goes.{AreGood, aim_from}
use Rattle.symk_cli.specs.Answer.{ListsPlans, Answer, Answered}
use Rattle.symk_cli.specs.Complete.{TellsText, TellsTexts, Finishes, IsQuiet, Complete}
use Rattle.plan_run.specs.Lists.{Aim, MayCome, IsTrueEnd, end_status}
use Rattle.plan_out.specs.declared.end.End.{End}
use Rattle.plan_out.specs.declared.end.End.TheVariants as end
use Rattle.symk_cli.proofs.Answering.{may_status}
use Rattle.symk_cli.proofs.Certified.{both_not}
use Rattle.symk_cli.proofs.LawfulWishes.{lawful_asks}

-- a whole text does not offend
not_offending : {A : Type 0} (Whole : List (List ℕ) → A → Type 0) (ls : List (List ℕ)) (a : A) (n : ℕ) → Whole ls a
    → ((n ≤ length ls) × (((more : List (List ℕ)) × (b : A) × Whole (take n ls ++ more) b) → ⊥)) ⊎ ((n ≡ length ls + 1) × ((b : A) → Whole ls b → ⊥)) → ⊥
not_offending Whole ls a n w (inl h) = h.1 (drop n ls, a, subst (λ l. Whole l a) (sym (take-append-drop n ls)) w)
not_offending Whole ls a n w (inr h) = h.1 a w

file_offends_not : (F out : Bytes) (task : TaskParts) → IsFileOf (lines F) task → FileOffence F out → ⊥
file_offends_not F out task file o = let offends = o.offends.0 in not_offending IsFileOf (lines F) task o.line file offends.stuck

plans_offend_not : (P out : Bytes) (blocks : List ReadBlock) → IsPlansOf (lines P) blocks → PlansOffence P out → ⊥
plans_offend_not P out blocks plans o = let offends = o.offends in not_offending IsPlansOf (lines P) blocks o.line plans offends.stuck

cert_offends_not : (C out : Bytes) (task : TaskParts) → IsCertText task C → CertOffence task C out → ⊥
cert_offends_not C out task c o =
    let offends = o.offends in
    let cert = c.states in
    not_offending (IsCertOf (state_width task)) (lines C) cert.0 o.line cert.1 offends.stuck

did_not_rise : (before now : ℕ) → IsQuiet before now → Rose before now → ⊥
did_not_rise before now q rose = let same = q.0 in let below = q.1 in omega (arith, same, below, rose)

-- the text that was read is the one told
told_same : (told : Option Told) (name F G : Bytes) → TellsText told name F → IsToldText told name G → F ≡ G
told_same None name F G is other = absurd is
told_same (Some t) name F G is other = let same : Some F ≡ Some G = sym is ∙ other in cc

read_task : (told : Option Told) (name F : Bytes) (task : TaskParts) (read : Option Bytes) → TellsText told name F → IsTaskText F task → IfSome read (IsToldText told name) → IfSome read (λ text. IsTaskText text task)
read_task told name F task None is t texts = tt
read_task told name F task (Some G) is t texts = subst (λ (x : Bytes). IsTaskText x task) (told_same told name F G is texts) t

read_plans : (told : Option Told) (name P : Bytes) (blocks : List ReadBlock) (read : Option Bytes) → TellsText told name P → IsPlansText P blocks → IfSome read (IsToldText told name) → IfSome read (λ text. IsPlansText text blocks)
read_plans told name P blocks None is t texts = tt
read_plans told name P blocks (Some G) is t texts = subst (λ (x : Bytes). IsPlansText x blocks) (told_same told name P G is texts) t

read_cert : (told : Option Told) (name C : Bytes) (task : TaskParts) (read : Option Bytes) → TellsText told name C → IsCertText task C → IfSome read (IsToldText told name) → IfSome read (IsCertText task)
read_cert told name C task None is t texts = tt
read_cert told name C task (Some G) is t texts = subst (λ (x : Bytes). IsCertText task x) (told_same told name C G is texts) t

-- so it is not too long, and no line of it offends
too_long : (F : Bytes) → length F ≤ most_bytes → most_bytes < length F → ⊥
too_long F short long = omega (arith, short, long)

task_short : (task : TaskParts) (read : Option Bytes) → IfSome read (λ text. IsTaskText text task) → IsSomeAnd read (λ text. most_bytes < length text) → ⊥
task_short task None t long = long
task_short task (Some F) t long = too_long F t.short long

task_lawful : (task : TaskParts) (out : Bytes) (read : Option Bytes) → IfSome read (λ text. IsTaskText text task) → IsSomeAnd read (λ text. FileOffence text out) → ⊥
task_lawful task out None t offence = offence
task_lawful task out (Some F) t offence = file_offends_not F out task t.file offence

plans_short : (blocks : List ReadBlock) (read : Option Bytes) → IfSome read (λ text. IsPlansText text blocks) → IsSomeAnd read (λ text. most_bytes < length text) → ⊥
plans_short blocks None t long = long
plans_short blocks (Some P) t long = too_long P t.short long

plans_lawful : (blocks : List ReadBlock) (out : Bytes) (read : Option Bytes) → IfSome read (λ text. IsPlansText text blocks) → IsSomeAnd read (λ text. PlansOffence text out) → ⊥
plans_lawful blocks out None t offence = offence
plans_lawful blocks out (Some P) t offence = plans_offend_not P out blocks t.plans offence

cert_short : (task : TaskParts) (read : Option Bytes) → IfSome read (IsCertText task) → IsSomeAnd read (λ text. most_bytes < length text) → ⊥
cert_short task None t long = long
cert_short task (Some C) t long = too_long C t.short long

cert_lawful : (task : TaskParts) (out : Bytes) (F C : Option Bytes) → IfSome F (λ text. IsTaskText text task) → IfSome C (IsCertText task) → BothAre F C (λ stated bytes. CertOffence stated bytes out) → ⊥
cert_lawful task out None C t c o = o
cert_lawful task out (Some F) None t c o = o.2
cert_lawful task out (Some F) (Some C) t c o =
    let same : o.0 ≡ task = one_task (lines F) o.0 task o.1.file t.file in
    let last = o.2 in
    cert_offends_not C out task c (subst (λ (x : TaskParts). CertOffence x C out) same last.1)

not_both : (wish : Option Wish) → IsSome wish → wish ≡ None → ⊥
not_both wish some none = let h = subst (λ o. IsSome o) none some in cc

some_none : (wish : Wish) → Some wish ≡ None → ⊥
some_none wish e = cc

-- a list that goes on from no other names no plan that is missed
no_gap_listed : (ask : Ask) (F P : Option Bytes) (pieces : List Bytes) → ListsPlans (Some (lists ask)) F P status.Gap pieces → ⊥
no_gap_listed ask None P pieces l = l
no_gap_listed ask (Some F) P pieces l = may_status l.0 ask status.Gap pieces l.2

-- one of the two texts is too long, or offends
either : (A B C : Type 0) → (A → ⊥) → (C → ⊥) → A ⊎ (B × C) → ⊥
either A B C f g (inl a) = f a
either A B C f g (inr h) = g h.1

-- without a greatest cost no list ends as bounded
ends_bounded : (a : Aim) (limit : a.limit ≡ None) (plans : List (List ℕ)) (why : End) → status.Bounded ≡ end_status why → IsTrueEnd a.task a.mode a.limit plans (Some why) → ⊥
ends_bounded a limit plans (end.Bounded n) e true = let some = subst (λ o. IsSome o) limit true.0 in absurd (cc)
ends_bounded a limit plans (end.Reached n) e true = let bad : status.Bounded ≡ status.Reached = e in absurd (cc)
ends_bounded a limit plans (end.More n) e true = let bad : status.Bounded ≡ status.MoreLeft = e in absurd (cc)
ends_bounded a limit plans (end.Exhausted n) e true = let bad : status.Bounded ≡ status.Exhausted = e in absurd (cc)
ends_bounded a limit plans end.CostRange e true = let bad : status.Bounded ≡ status.CostRange = e in absurd (cc)

comes_bounded : (a : Aim) (limit : a.limit ≡ None) (pieces : List Bytes) → MayCome a status.Bounded pieces → ⊥
comes_bounded a limit pieces (inl l) = ends_bounded a limit (a.earlier ++ l.plans) l.ended l.says l.promise.end
comes_bounded a limit pieces (inr g) = let bad : status.Bounded ≡ status.Gap = g.says in absurd (cc)

plans_bounded : (ask : Further) (task : TaskParts) (P : Option Bytes) (pieces : List Bytes) → IsSomeAnd P (λ plans. (blocks : List ReadBlock) × IsPlansText plans blocks × AreGood task ask.mode blocks × MayCome (aim_from task ask.mode ask.wanted blocks) status.Bounded pieces) → ⊥
plans_bounded ask task None pieces g = g
plans_bounded ask task (Some P) pieces g = comes_bounded (aim_from task ask.mode ask.wanted g.0) refl pieces g.3

never_bounded : (ask : Further) (F P : Option Bytes) (pieces : List Bytes) → ListsPlans (Some (continues ask)) F P status.Bounded pieces → ⊥
never_bounded ask None P pieces g = g
never_bounded ask (Some F) P pieces g = plans_bounded ask g.0 P pieces g.2

-- a certificate, over a task file
no_proof : (F : Option Bytes) → IsSomeAnd F (λ text. (task : TaskParts) × IsTaskText text task × ⊥) → ⊥
no_proof None c = c
no_proof (Some F) c = c.2

-- a verdict on one, over a task file and the text of a certificate for the task
either_way : (A B : Type 0) → (A → ⊥) → (B → ⊥) → A ⊎ B → ⊥
either_way A B f g (inl a) = f a
either_way A B f g (inr b) = g b

module _ (rose : Type 0) where
  -- usage comes of no lawful words
  pub never_usage : (words : List Bytes) (told : Option Told) (old new : SinkView) (result : Status) → Answered rose (wish_of words) told old new result → AreLawful words → result ≢ status.Usage
  never_usage words told old new result a lawful e =
      not_both (wish_of words) (lawful_asks words lawful) (subst (λ s. Answer rose (wish_of words) a.F a.P s a.out) e a.answer).0.2.0

  -- what is asked for over a text that is a task file
  lists_finish : (told : Option Told) (ask : Ask) (old new : SinkView) (result : Status) → TellsTexts told (lists ask)
      → (result ≡ status.Unreadable → ⊥) → (result ≡ status.WriteFault → ⊥) → Answered rose (Some (lists ask)) told old new result → Finishes (lists ask) result ⊎ (result ≡ status.Memory)
  lists_finish told ask old new status.Reached t u w a = inl (inl refl)
  lists_finish told ask old new status.MoreLeft t u w a = inl (inr (inl refl))
  lists_finish told ask old new status.Bounded t u w a = inl (inr (inr (inl refl)))
  lists_finish told ask old new status.Exhausted t u w a = inl (inr (inr (inr (inl refl))))
  lists_finish told ask old new status.CostRange t u w a = inl (inr (inr (inr (inr refl))))
  lists_finish told ask old new status.Memory t u w a = inr refl
  lists_finish told ask old new status.Unreadable t u w a = absurd (u refl)
  lists_finish told ask old new status.WriteFault t u w a = absurd (w refl)
  lists_finish told ask old new status.Usage t u w a = absurd (some_none (lists ask) a.answer.0.2.0)
  lists_finish told ask old new status.TooLong t u w a =
      absurd (task_short t.1 a.F (read_task told ask.file t.0 t.1 a.F t.2 t.3 a.texts) a.answer.0.2.0)
  lists_finish told ask old new status.Offending t u w a =
      absurd (task_lawful t.1 a.answer.0.0 a.F (read_task told ask.file t.0 t.1 a.F t.2 t.3 a.texts) a.answer.0.2)
  lists_finish told ask old new status.Gap t u w a = absurd (no_gap_listed ask a.F a.P a.out.pieces a.answer.0)
  lists_finish told ask old new result t u w a = absurd a.answer.0.2

  -- and over one that is a plan text
  checks_finish : (told : Option Told) (file plans : Bytes) (mode : Mode) (old new : SinkView) (result : Status) → TellsTexts told (checks file plans mode)
      → (result ≡ status.Unreadable → ⊥) → (result ≡ status.WriteFault → ⊥) → Answered rose (Some (checks file plans mode)) told old new result → Finishes (checks file plans mode) result ⊎ (result ≡ status.Memory)
  checks_finish told file plans mode old new status.Good t u w a = inl (inl refl)
  checks_finish told file plans mode old new status.BadList t u w a = inl (inr refl)
  checks_finish told file plans mode old new status.Memory t u w a = inr refl
  checks_finish told file plans mode old new status.Unreadable t u w a = absurd (u refl)
  checks_finish told file plans mode old new status.WriteFault t u w a = absurd (w refl)
  checks_finish told file plans mode old new status.Usage t u w a = absurd (some_none (checks file plans mode) a.answer.0.2.0)
  checks_finish told file plans mode old new status.TooLong t u w a =
      absurd (either _ _ _ (λ h. task_short t.0.1 a.F (read_task told file t.0.0 t.0.1 a.F t.0.2 t.0.3 a.texts.0) h.0) (λ h. plans_short t.1.1 a.P (read_plans told plans t.1.0 t.1.1 a.P t.1.2 t.1.3 a.texts.1) h.0) a.answer.0.2)
  checks_finish told file plans mode old new status.Offending t u w a =
      absurd (either _ _ _ (λ h. task_lawful t.0.1 a.answer.0.0 a.F (read_task told file t.0.0 t.0.1 a.F t.0.2 t.0.3 a.texts.0) h) (λ h. plans_lawful t.1.1 a.answer.0.0 a.P (read_plans told plans t.1.0 t.1.1 a.P t.1.2 t.1.3 a.texts.1) h) a.answer.0.2)
  checks_finish told file plans mode old new status.Reached t u w a = absurd a.answer.0
  checks_finish told file plans mode old new status.MoreLeft t u w a = absurd a.answer.0
  checks_finish told file plans mode old new status.Bounded t u w a = absurd a.answer.0
  checks_finish told file plans mode old new status.Exhausted t u w a = absurd a.answer.0
  checks_finish told file plans mode old new status.CostRange t u w a = absurd a.answer.0
  checks_finish told file plans mode old new status.Gap t u w a = absurd a.answer.0
  checks_finish told file plans mode old new result t u w a = absurd a.answer.0.2

  -- a list that goes on, over a task file and a plan text
  continues_finish : (told : Option Told) (ask : Further) (old new : SinkView) (result : Status) → TellsTexts told (continues ask)
      → (result ≡ status.Unreadable → ⊥) → (result ≡ status.WriteFault → ⊥) → Answered rose (Some (continues ask)) told old new result → Finishes (continues ask) result ⊎ (result ≡ status.Memory)
  continues_finish told ask old new status.Reached t u w a = inl (inl refl)
  continues_finish told ask old new status.MoreLeft t u w a = inl (inr (inl refl))
  continues_finish told ask old new status.Exhausted t u w a = inl (inr (inr (inl refl)))
  continues_finish told ask old new status.CostRange t u w a = inl (inr (inr (inr (inl refl))))
  continues_finish told ask old new status.Gap t u w a = inl (inr (inr (inr (inr (inl refl)))))
  continues_finish told ask old new status.BadList t u w a = inl (inr (inr (inr (inr (inr refl)))))
  continues_finish told ask old new status.Memory t u w a = inr refl
  continues_finish told ask old new status.Unreadable t u w a = absurd (u refl)
  continues_finish told ask old new status.WriteFault t u w a = absurd (w refl)
  continues_finish told ask old new status.Usage t u w a = absurd (some_none (continues ask) a.answer.0.2.0)
  continues_finish told ask old new status.TooLong t u w a =
      absurd (either _ _ _ (λ h. task_short t.0.1 a.F (read_task told ask.file t.0.0 t.0.1 a.F t.0.2 t.0.3 a.texts.0) h.0) (λ h. plans_short t.1.1 a.P (read_plans told ask.plans t.1.0 t.1.1 a.P t.1.2 t.1.3 a.texts.1) h.0) a.answer.0.2)
  continues_finish told ask old new status.Offending t u w a =
      absurd (either _ _ _ (λ h. task_lawful t.0.1 a.answer.0.0 a.F (read_task told ask.file t.0.0 t.0.1 a.F t.0.2 t.0.3 a.texts.0) h) (λ h. plans_lawful t.1.1 a.answer.0.0 a.P (read_plans told ask.plans t.1.0 t.1.1 a.P t.1.2 t.1.3 a.texts.1) h) a.answer.0.2)
  continues_finish told ask old new status.Bounded t u w a = absurd (never_bounded ask a.F a.P a.out.pieces a.answer.0)
  continues_finish told ask old new result t u w a = absurd a.answer.0.2

  shows_finish : (told : Option Told) (number : ℕ) (old new : SinkView) (result : Status) → (result ≡ status.WriteFault → ⊥) → Answered rose (Some (shows number)) told old new result → (result ≡ status.Shown) ⊎ (result ≡ status.Memory)
  shows_finish told number old new status.Shown w a = inl refl
  shows_finish told number old new status.Memory w a = inr refl
  shows_finish told number old new status.WriteFault w a = absurd (w refl)
  shows_finish told number old new status.Usage w a = absurd (some_none (shows number) a.answer.0.2.0)
  shows_finish told number old new status.Reached w a = absurd a.answer.0
  shows_finish told number old new status.MoreLeft w a = absurd a.answer.0
  shows_finish told number old new status.Bounded w a = absurd a.answer.0
  shows_finish told number old new status.Exhausted w a = absurd a.answer.0
  shows_finish told number old new status.CostRange w a = absurd a.answer.0
  shows_finish told number old new status.Gap w a = absurd a.answer.0
  shows_finish told number old new result w a = absurd a.answer.0.2

  proves_finish : (told : Option Told) (file : Bytes) (old new : SinkView) (result : Status) → TellsTexts told (proves file)
      → (result ≡ status.Unreadable → ⊥) → (result ≡ status.WriteFault → ⊥) → Answered rose (Some (proves file)) told old new result → Finishes (proves file) result ⊎ (result ≡ status.Memory)
  proves_finish told file old new status.Proved t u w a = inl (inl refl)
  proves_finish told file old new status.HasPlan t u w a = inl (inr refl)
  proves_finish told file old new status.Memory t u w a = inr refl
  proves_finish told file old new status.Unreadable t u w a = absurd (u refl)
  proves_finish told file old new status.WriteFault t u w a = absurd (w refl)
  proves_finish told file old new status.Usage t u w a = absurd (some_none (proves file) a.answer.0.2.0)
  proves_finish told file old new status.TooLong t u w a = absurd (task_short t.1 a.F (read_task told file t.0 t.1 a.F t.2 t.3 a.texts) a.answer.0.2.0)
  proves_finish told file old new status.Offending t u w a = absurd (task_lawful t.1 a.answer.0.0 a.F (read_task told file t.0 t.1 a.F t.2 t.3 a.texts) a.answer.0.2)
  proves_finish told file old new status.Refuted t u w a = absurd (no_proof a.F a.answer.0.2)
  proves_finish told file old new status.NotShown t u w a = absurd (no_proof a.F a.answer.0.2)
  proves_finish told file old new status.Reached t u w a = absurd a.answer.0
  proves_finish told file old new status.MoreLeft t u w a = absurd a.answer.0
  proves_finish told file old new status.Bounded t u w a = absurd a.answer.0
  proves_finish told file old new status.Exhausted t u w a = absurd a.answer.0
  proves_finish told file old new status.CostRange t u w a = absurd a.answer.0
  proves_finish told file old new status.Gap t u w a = absurd a.answer.0
  proves_finish told file old new result t u w a = absurd a.answer.0.2

  refutes_finish : (told : Option Told) (file cert : Bytes) (old new : SinkView) (result : Status) → TellsTexts told (refutes file cert)
      → (result ≡ status.Unreadable → ⊥) → (result ≡ status.WriteFault → ⊥) → Answered rose (Some (refutes file cert)) told old new result → Finishes (refutes file cert) result ⊎ (result ≡ status.Memory)
  refutes_finish told file cert old new status.Refuted t u w a = inl (inl refl)
  refutes_finish told file cert old new status.NotShown t u w a = inl (inr refl)
  refutes_finish told file cert old new status.Memory t u w a = inr refl
  refutes_finish told file cert old new status.Unreadable t u w a = absurd (u refl)
  refutes_finish told file cert old new status.WriteFault t u w a = absurd (w refl)
  refutes_finish told file cert old new status.Usage t u w a = absurd (some_none (refutes file cert) a.answer.0.2.0)
  refutes_finish told file cert old new status.TooLong t u w a =
      let second = t.4 in
      absurd (either _ _ _ (λ h. task_short t.1 a.F (read_task told file t.0 t.1 a.F t.2 t.3 a.texts.0) h.0) (λ h. cert_short t.1 a.P (read_cert told cert second.0 t.1 a.P second.1 second.2 a.texts.1) h.0) a.answer.0.2)
  refutes_finish told file cert old new status.Offending t u w a =
      let second = t.4 in
      let first = read_task told file t.0 t.1 a.F t.2 t.3 a.texts.0 in
      absurd (either_way _ _ (λ h. task_lawful t.1 a.answer.0.0 a.F first h) (λ h. cert_lawful t.1 a.answer.0.0 a.F a.P first (read_cert told cert second.0 t.1 a.P second.1 second.2 a.texts.1) h) a.answer.0.2)
  refutes_finish told file cert old new status.Proved t u w a = absurd (both_not a.F a.P (λ task bytes. ⊥) (λ task bytes n. n) a.answer.0.2)
  refutes_finish told file cert old new status.HasPlan t u w a = absurd (both_not a.F a.P (λ task bytes. ⊥) (λ task bytes n. n) a.answer.0.2)
  refutes_finish told file cert old new status.Reached t u w a = absurd a.answer.0
  refutes_finish told file cert old new status.MoreLeft t u w a = absurd a.answer.0
  refutes_finish told file cert old new status.Bounded t u w a = absurd a.answer.0
  refutes_finish told file cert old new status.Exhausted t u w a = absurd a.answer.0
  refutes_finish told file cert old new status.CostRange t u w a = absurd a.answer.0
  refutes_finish told file cert old new status.Gap t u w a = absurd a.answer.0
  refutes_finish told file cert old new result t u w a = absurd a.answer.0.2

  finish : (told : Option Told) (wish : Wish) (old new : SinkView) (result : Status) → TellsTexts told wish → (result ≡ status.Unreadable → ⊥) → (result ≡ status.WriteFault → ⊥) → Answered rose (Some wish) told old new result → Finishes wish result ⊎ (result ≡ status.Memory)
  finish told (lists ask) old new result t u w a = lists_finish told ask old new result t u w a
  finish told (continues ask) old new result t u w a = continues_finish told ask old new result t u w a
  finish told (checks file plans mode) old new result t u w a = checks_finish told file plans mode old new result t u w a
  finish told (shows number) old new result t u w a = shows_finish told number old new result w a
  finish told (proves file) old new result t u w a = proves_finish told file old new result t u w a
  finish told (refutes file cert) old new result t u w a = refutes_finish told file cert old new result t u w a

  pub completed : (asked : Option Wish) (files files' : FilesView) (sink sink' : SinkView) (result : Status) → Answered rose asked files.told sink sink' result → HasCauses result files.faults files'.faults sink.faults sink'.faults → Complete asked files files' sink sink' result
  completed asked files files' sink sink' result a causes wish e t quiet silent =
      finish files.told wish sink sink' result t (λ u. did_not_rise _ _ quiet (causes.unreadable u)) (λ w. did_not_rise _ _ silent (causes.write w))
      (subst (λ o. Answered rose o files.told sink sink' result) e a)
