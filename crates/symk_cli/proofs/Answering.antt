-- From the bytes that went out to the answer.
use Rattle.std.proofs.Common.{◌≡◌, sym, refl, subst, inl, inr, ◌⊎◌, List, Option, Some, None}
use Rattle.symk_io.specs.View.{Bytes, SinkView, Told}
use Rattle.symk_task.specs.declared.parts.Mode.{Mode}
use Rattle.symk_task.specs.declared.parts.TaskParts.{TaskParts}
use Rattle.plan_out.specs.declared.blocks.ReadBlock.{ReadBlock}
use Rattle.plan_out.specs.declared.end.End.{End}
use Rattle.plan_out.specs.declared.end.End.TheVariants as end
use Rattle.plan_out.specs.declared.check.Checked.{Checked}
use Rattle.plan_out.specs.declared.check.Checked.TheVariants as checked
use Rattle.symk_cli.specs.declared.top.TheConstants.{USAGE}
use Rattle.plan_run.specs.declared.options.Reach.{Reach}
use Rattle.plan_run.specs.declared.options.Reach.TheVariants.{All, UpTo, Percent}
use Rattle.run_status.specs.declared.status.Status.{Status}
use Rattle.run_status.specs.declared.status.Status.TheVariants as status
use Rattle.run_status.specs.Sent.{Sent, nothing, IsOne}
use Rattle.run_status.specs.Ends.{EndsWithText, FrontOf, AsOne, OrFront, PutsOutWith}
use Rattle.symk_cli.specs.Wishes.{Ask, Further, Wish, lists, continues, checks, shows, proves, refutes}
use Rattle.symk_cli.specs.Refusals.{IsTaskText, FileRefused}
use Rattle.plan_run.specs.Lists.{Aim, aim, Listing, MayCome, end_status}
use Rattle.plan_run.specs.Reaches.{NoListing, IfPercent, MayList, MayPart, OrReached}
use Rattle.symk_cli.specs.Verdicts.{Verdict, verdict_status}
use Rattle.symk_cli.specs.Plans.{IsPlansText, PlansRefused}
use Rattle.symk_cli.specs.Goes.{AreGood, aim_from, MayGoOn, MayGoPart, OrGoesOn}
use Rattle.symk_cli.specs.Named.{HasText, HasRead}
use Rattle.symk_cli.specs.Answer.{Whole, Part, Answer, AreTexts, Answered, usage_text}
use Rattle.run_status.proofs.Took.{took_nothing}
use Rattle.run_status.proofs.Puts.{end_puts}

-- nothing was read
nothing_read : (told : Option Told) (wish : Option Wish) → AreTexts told wish None None
nothing_read told None = tt
nothing_read told (Some (lists ask)) = tt
nothing_read told (Some (continues ask)) = (tt, tt)
nothing_read told (Some (checks file plans mode)) = (tt, tt)
nothing_read told (Some (shows number)) = tt
nothing_read told (Some (proves file)) = tt
nothing_read told (Some (refutes file cert)) = (tt, tt)

-- usage
abbrev IsUsage : Option Wish → Status → Bytes → Type 0
IsUsage wish status.Usage out = (wish ≡ None) × (out ≡ usage_text)
IsUsage wish result out = ⊥

-- plans are listed
abbrev pub IsListing : Status → Type 0
IsListing status.Reached = Unit {0}
IsListing status.MoreLeft = Unit {0}
IsListing status.Bounded = Unit {0}
IsListing status.Exhausted = Unit {0}
IsListing status.CostRange = Unit {0}
IsListing result = ⊥

is_listing : (why : End) → IsListing (end_status why)
is_listing (end.Reached n) = tt
is_listing (end.More n) = tt
is_listing (end.Bounded n) = tt
is_listing (end.Exhausted n) = tt
is_listing end.CostRange = tt

listing_status : (a : Aim) (result : Status) (pieces : List Bytes) → Listing a result pieces → IsListing result
listing_status a result pieces l = subst IsListing (sym l.says) (is_listing l.ended)

none_status : (task : TaskParts) (result : Status) (pieces : List Bytes) → NoListing task result pieces → IsListing result
none_status task result pieces l = subst IsListing (sym l.says) (is_listing l.ended)

percent_status : (task : TaskParts) (reach : Reach) (result : Status) (pieces : List Bytes) → IfPercent reach (NoListing task result pieces) → IsListing result
percent_status task All result pieces h = absurd h
percent_status task (UpTo most) result pieces h = absurd h
percent_status task (Percent percent) result pieces h = none_status task result pieces h

pub may_status : (task : TaskParts) (ask : Ask) (result : Status) (pieces : List Bytes) → MayList task ask.mode ask.wanted ask.reach result pieces → IsListing result
may_status task ask result pieces (inl l) = listing_status (aim task ask.mode ask.wanted l.0) result pieces l.2
may_status task ask result pieces (inr h) = percent_status task ask.reach result pieces h

-- they are listed after those of an earlier list
abbrev IsGoing : Status → Type 0
IsGoing status.Gap = Unit {0}
IsGoing result = IsListing result

is_going : (why : End) → IsGoing (end_status why)
is_going (end.Reached n) = tt
is_going (end.More n) = tt
is_going (end.Bounded n) = tt
is_going (end.Exhausted n) = tt
is_going end.CostRange = tt

going_status : (a : Aim) (result : Status) (pieces : List Bytes) → MayCome a result pieces → IsGoing result
going_status a result pieces (inl l) = subst IsGoing (sym l.says) (is_going l.ended)
going_status a result pieces (inr g) = subst IsGoing (sym g.says) tt

-- a list is judged
abbrev IsVerdict : Status → Type 0
IsVerdict status.Good = Unit {0}
IsVerdict status.BadList = Unit {0}
IsVerdict result = ⊥

is_verdict : (found : Checked) → IsVerdict (verdict_status found)
is_verdict (checked.Good n) = tt
is_verdict (checked.Bad plan why) = tt

verdict_is : (task : TaskParts) (mode : Mode) (blocks : List ReadBlock) (result : Status) (out : Bytes) → Verdict task mode blocks result out → IsVerdict result
verdict_is task mode blocks result out v = subst IsVerdict (sym v.says) (is_verdict v.found)

-- the text that the program puts is the usage text
pub usage_is : USAGE.now ≡ usage_text
unfolding usage_text
usage_is = refl

module _ (rose : Type 0) where
  -- a text, or a front of one, answers where each that may come does, as one piece
  front_answers : (wish : Option Wish) (F P : Option Bytes) (May : Status → Bytes → Type 0) → ((result : Status) (pieces : List Bytes) → AsOne May result pieces → Whole rose wish F P result pieces) → (result : Status) (out : Sent) → OrFront May result out → Answer rose wish F P result out
  front_answers wish F P May whole status.WriteFault out (inl none) = inl none
  front_answers wish F P May whole status.WriteFault out (inr f) = inr (inl (f.0, f.1, whole f.0 f.1 f.2, f.3))
  front_answers wish F P May whole status.Memory out (inl none) = inl none
  front_answers wish F P May whole status.Memory out (inr f) = inr (inl (f.0, f.1, whole f.0 f.1 f.2, f.3))
  front_answers wish F P May whole status.Reached out m = (whole status.Reached out.pieces m.0, m.1)
  front_answers wish F P May whole status.MoreLeft out m = (whole status.MoreLeft out.pieces m.0, m.1)
  front_answers wish F P May whole status.Good out m = (whole status.Good out.pieces m.0, m.1)
  front_answers wish F P May whole status.Shown out m = (whole status.Shown out.pieces m.0, m.1)
  front_answers wish F P May whole status.Proved out m = (whole status.Proved out.pieces m.0, m.1)
  front_answers wish F P May whole status.HasPlan out m = (whole status.HasPlan out.pieces m.0, m.1)
  front_answers wish F P May whole status.Refuted out m = (whole status.Refuted out.pieces m.0, m.1)
  front_answers wish F P May whole status.NotShown out m = (whole status.NotShown out.pieces m.0, m.1)
  front_answers wish F P May whole status.Exhausted out m = (whole status.Exhausted out.pieces m.0, m.1)
  front_answers wish F P May whole status.BadList out m = (whole status.BadList out.pieces m.0, m.1)
  front_answers wish F P May whole status.Gap out m = (whole status.Gap out.pieces m.0, m.1)
  front_answers wish F P May whole status.Bounded out m = (whole status.Bounded out.pieces m.0, m.1)
  front_answers wish F P May whole status.Offending out m = (whole status.Offending out.pieces m.0, m.1)
  front_answers wish F P May whole status.Usage out m = (whole status.Usage out.pieces m.0, m.1)
  front_answers wish F P May whole status.TooLong out m = (whole status.TooLong out.pieces m.0, m.1)
  front_answers wish F P May whole status.Unreadable out m = (whole status.Unreadable out.pieces m.0, m.1)
  front_answers wish F P May whole status.CostRange out m = (whole status.CostRange out.pieces m.0, m.1)

  pub front_answered : (wish : Option Wish) (told : Option Told) (F P : Option Bytes) (May : Status → Bytes → Type 0)
      (old new : SinkView) (result : Status) → ((result : Status) (pieces : List Bytes) → AsOne May result pieces
      → Whole rose wish F P result pieces) → AreTexts told wish F P → PutsOutWith (OrFront May) old new result
      → Answered rose wish told old new result
  front_answered wish told F P May old new result whole texts p = record { F = F; P = P; texts = texts; out = p.0; taken = p.1; answer = front_answers wish F P May whole result p.0 p.2 }

  -- out of memory, before anything is put
  pub memory_answered : (wish : Option Wish) (told : Option Told) (old : SinkView) → Answered rose wish told old old status.Memory
  memory_answered wish told old = record { F = None; P = None; texts = nothing_read told wish; out = nothing; taken = took_nothing old; answer = inl refl }

  usage_whole : (wish : Option Wish) (result : Status) (pieces : List Bytes) → AsOne (IsUsage wish) result pieces → Whole rose wish None None result pieces
  usage_whole wish status.Usage pieces m = m
  usage_whole wish result pieces m = absurd m.2

  pub usage_answered : (wish : Option Wish) (told : Option Told) (text : Bytes) (old new : SinkView) (result : Status)
      → wish ≡ None → text ≡ usage_text → EndsWithText status.Usage text old new result
      → Answered rose wish told old new result
  usage_answered wish told text old new result none e ends =
      front_answered wish told None None (IsUsage wish) old new result (usage_whole wish) (nothing_read told wish) (end_puts (IsUsage wish) status.Usage text old new result (none, e) ends)

  -- FILE is refused
  refused_lists : (ask : Ask) (F P : Option Bytes) (result : Status) (pieces : List Bytes) → AsOne (FileRefused rose F) result pieces → Whole rose (Some (lists ask)) F P result pieces
  refused_lists ask F P status.Unreadable pieces m = m
  refused_lists ask F P status.TooLong pieces m = m
  refused_lists ask F P status.Offending pieces m = m
  refused_lists ask F P result pieces m = absurd m.2

  pub lists_refused : (told : Option Told) (ask : Ask) (old new : SinkView) (result : Status)
      → HasRead told ask.file (λ F. PutsOutWith (OrFront (FileRefused rose F)) old new result)
      → Answered rose (Some (lists ask)) told old new result
  lists_refused told ask old new result h =
      front_answered (Some (lists ask)) told h.0 None (FileRefused rose h.0) old new result (refused_lists ask h.0 None) h.1 h.2

  refused_checks : (file plans : Bytes) (mode : Mode) (F P : Option Bytes) (result : Status) (pieces : List Bytes) → AsOne (FileRefused rose F) result pieces → Whole rose (Some (checks file plans mode)) F P result pieces
  refused_checks file plans mode F P status.Unreadable pieces m = (m.0, m.1, inl m.2)
  refused_checks file plans mode F P status.TooLong pieces m = (m.0, m.1, inl m.2)
  refused_checks file plans mode F P status.Offending pieces m = (m.0, m.1, inl m.2)
  refused_checks file plans mode F P result pieces m = absurd m.2

  pub checks_refused : (told : Option Told) (file plans : Bytes) (mode : Mode) (old new : SinkView) (result : Status)
      → HasRead told file (λ F. PutsOutWith (OrFront (FileRefused rose F)) old new result)
      → Answered rose (Some (checks file plans mode)) told old new result
  checks_refused told file plans mode old new result h =
      front_answered (Some (checks file plans mode)) told h.0 None (FileRefused rose h.0) old new result (refused_checks file plans mode h.0 None) (h.1, tt) h.2

  -- PLANS is refused
  plans_whole : (file plans : Bytes) (mode : Mode) (F : Bytes) (P : Option Bytes) (task : TaskParts) → IsTaskText F task → (result : Status) (pieces : List Bytes) → AsOne (PlansRefused rose P) result pieces → Whole rose (Some (checks file plans mode)) (Some F) P result pieces
  plans_whole file plans mode F P task t status.Unreadable pieces m = (m.0, m.1, inr ((task, t), m.2))
  plans_whole file plans mode F P task t status.TooLong pieces m = (m.0, m.1, inr ((task, t), m.2))
  plans_whole file plans mode F P task t status.Offending pieces m = (m.0, m.1, inr ((task, t), m.2))
  plans_whole file plans mode F P task t result pieces m = absurd m.2

  pub plans_refused : (told : Option Told) (file plans : Bytes) (mode : Mode) (task : TaskParts) (old new : SinkView)
      (result : Status) → HasText told file (λ F. IsTaskText F task)
      → HasRead told plans (λ P. PutsOutWith (OrFront (PlansRefused rose P)) old new result)
      → Answered rose (Some (checks file plans mode)) told old new result
  plans_refused told file plans mode task old new result f p =
      front_answered (Some (checks file plans mode)) told (Some f.0) p.0 (PlansRefused rose p.0) old new result (plans_whole file plans mode f.0 p.0 task f.2) (f.1, p.1) p.2

  -- so are they where a list is to go on
  refused_continues : (ask : Further) (F P : Option Bytes) (result : Status) (pieces : List Bytes) → AsOne (FileRefused rose F) result pieces → Whole rose (Some (continues ask)) F P result pieces
  refused_continues ask F P status.Unreadable pieces m = (m.0, m.1, inl m.2)
  refused_continues ask F P status.TooLong pieces m = (m.0, m.1, inl m.2)
  refused_continues ask F P status.Offending pieces m = (m.0, m.1, inl m.2)
  refused_continues ask F P result pieces m = absurd m.2

  pub continues_refused : (told : Option Told) (ask : Further) (old new : SinkView) (result : Status)
      → HasRead told ask.file (λ F. PutsOutWith (OrFront (FileRefused rose F)) old new result)
      → Answered rose (Some (continues ask)) told old new result
  continues_refused told ask old new result h =
      front_answered (Some (continues ask)) told h.0 None (FileRefused rose h.0) old new result (refused_continues ask h.0 None) (h.1, tt) h.2

  earlier_whole : (ask : Further) (F : Bytes) (P : Option Bytes) (task : TaskParts) → IsTaskText F task → (result : Status) (pieces : List Bytes) → AsOne (PlansRefused rose P) result pieces → Whole rose (Some (continues ask)) (Some F) P result pieces
  earlier_whole ask F P task t status.Unreadable pieces m = (m.0, m.1, inr ((task, t), m.2))
  earlier_whole ask F P task t status.TooLong pieces m = (m.0, m.1, inr ((task, t), m.2))
  earlier_whole ask F P task t status.Offending pieces m = (m.0, m.1, inr ((task, t), m.2))
  earlier_whole ask F P task t result pieces m = absurd m.2

  pub earlier_refused : (told : Option Told) (ask : Further) (task : TaskParts) (old new : SinkView) (result : Status)
      → HasText told ask.file (λ F. IsTaskText F task) → HasRead told ask.plans
      (λ P. PutsOutWith (OrFront (PlansRefused rose P)) old new result)
      → Answered rose (Some (continues ask)) told old new result
  earlier_refused told ask task old new result f p =
      front_answered (Some (continues ask)) told (Some f.0) p.0 (PlansRefused rose p.0) old new result (earlier_whole ask f.0 p.0 task f.2) (f.1, p.1) p.2

  listing_whole : (ask : Ask) (F : Bytes) (P : Option Bytes) (task : TaskParts) → IsTaskText F task → (result : Status) (pieces : List Bytes) → MayList task ask.mode ask.wanted ask.reach result pieces → Whole rose (Some (lists ask)) (Some F) P result pieces
  listing_whole ask F P task t status.Reached out l = (task, t, l)
  listing_whole ask F P task t status.MoreLeft out l = (task, t, l)
  listing_whole ask F P task t status.Bounded out l = (task, t, l)
  listing_whole ask F P task t status.Exhausted out l = (task, t, l)
  listing_whole ask F P task t status.CostRange out l = (task, t, l)
  listing_whole ask F P task t result out l = absurd (may_status task ask result out l)

  part_answers : (ask : Ask) (F : Bytes) (P : Option Bytes) (task : TaskParts) → IsTaskText F task → (out : Sent) → FrontOf (MayList task ask.mode ask.wanted ask.reach) out ⊎ MayPart task ask.mode ask.wanted ask.reach out → Part rose (Some (lists ask)) (Some F) P out
  part_answers ask F P task t out (inl (inl none)) = inl none
  part_answers ask F P task t out (inl (inr f)) = inr (inl (f.0, f.1, listing_whole ask F P task t f.0 f.1 f.2, f.3))
  part_answers ask F P task t out (inr p) = inr (inr (task, t, p))

  list_answers : (ask : Ask) (F : Bytes) (P : Option Bytes) (task : TaskParts) → IsTaskText F task → (result : Status) (out : Sent) → OrReached task ask.mode ask.wanted ask.reach result out → Answer rose (Some (lists ask)) (Some F) P result out
  list_answers ask F P task t status.WriteFault out l = part_answers ask F P task t out l
  list_answers ask F P task t status.Memory out l = part_answers ask F P task t out l
  list_answers ask F P task t status.Reached out l = ((task, t, l.0), l.1)
  list_answers ask F P task t status.MoreLeft out l = ((task, t, l.0), l.1)
  list_answers ask F P task t status.Gap out l = absurd (may_status task ask status.Gap out.pieces l.0)
  list_answers ask F P task t status.Bounded out l = ((task, t, l.0), l.1)
  list_answers ask F P task t status.Exhausted out l = ((task, t, l.0), l.1)
  list_answers ask F P task t status.CostRange out l = ((task, t, l.0), l.1)
  list_answers ask F P task t result out l = absurd (may_status task ask result out.pieces l.0)

  pub lists_answered : (told : Option Told) (ask : Ask) (task : TaskParts) (old new : SinkView) (result : Status)
      → HasText told ask.file (λ F. IsTaskText F task)
      → PutsOutWith (OrReached task ask.mode ask.wanted ask.reach) old new result
      → Answered rose (Some (lists ask)) told old new result
  lists_answered told ask task old new result h p =
      record { F = Some h.0; P = None; texts = h.1; out = p.0; taken = p.1; answer = list_answers ask h.0 None task h.2 result p.0 p.2 }

  module _ (ask : Further) (F P : Bytes) (task : TaskParts) (blocks : List ReadBlock) (t : IsTaskText F task) (p : IsPlansText P blocks) where
    bad_whole : (pieces : List Bytes) → IsOne (Verdict task ask.mode blocks status.BadList) pieces → Whole rose (Some (continues ask)) (Some F) (Some P) status.BadList pieces
    bad_whole pieces v = (v.0, v.1, (task, t, (blocks, p, v.2)))

    going_listed : (result : Status) (pieces : List Bytes) → AreGood task ask.mode blocks → MayCome (aim_from task ask.mode ask.wanted blocks) result pieces → Whole rose (Some (continues ask)) (Some F) (Some P) result pieces
    going_listed status.Reached pieces g l = (task, t, (blocks, p, g, l))
    going_listed status.MoreLeft pieces g l = (task, t, (blocks, p, g, l))
    going_listed status.Bounded pieces g l = (task, t, (blocks, p, g, l))
    going_listed status.Exhausted pieces g l = (task, t, (blocks, p, g, l))
    going_listed status.CostRange pieces g l = (task, t, (blocks, p, g, l))
    going_listed status.Gap pieces g l = (task, t, (blocks, p, g, l))
    going_listed result pieces g l = absurd (going_status (aim_from task ask.mode ask.wanted blocks) result pieces l)

    going_whole : (result : Status) (pieces : List Bytes) → MayGoOn task ask.mode ask.wanted blocks result pieces → Whole rose (Some (continues ask)) (Some F) (Some P) result pieces
    going_whole result pieces (inl b) =
        let v = subst (λ (s : Status). Verdict task ask.mode blocks s b.0) b.2.0 b.2.1 in
        subst (λ (s : Status). Whole rose (Some (continues ask)) (Some F) (Some P) s pieces) (sym b.2.0) (bad_whole pieces (b.0, b.1, v))
    going_whole result pieces (inr g) = going_listed result pieces g.0 g.1

    going_part : (out : Sent) → FrontOf (MayGoOn task ask.mode ask.wanted blocks) out ⊎ MayGoPart task ask.mode ask.wanted blocks out → Part rose (Some (continues ask)) (Some F) (Some P) out
    going_part out (inl (inl none)) = inl none
    going_part out (inl (inr f)) = inr (inl (f.0, f.1, going_whole f.0 f.1 f.2, f.3))
    going_part out (inr g) = inr (inr (task, t, (blocks, p, g.0, g.1)))

    going_answers : (result : Status) (out : Sent) → OrGoesOn task ask.mode ask.wanted blocks result out → Answer rose (Some (continues ask)) (Some F) (Some P) result out
    going_answers status.WriteFault out l = going_part out l
    going_answers status.Memory out l = going_part out l
    going_answers result out l = (going_whole result out.pieces l.0, l.1)

  pub continues_answered : (told : Option Told) (ask : Further) (task : TaskParts) (blocks : List ReadBlock) (old new : SinkView) (result : Status) → HasText told ask.file (λ F. IsTaskText F task) → HasText told ask.plans (λ P. IsPlansText P blocks)
      → PutsOutWith (OrGoesOn task ask.mode ask.wanted blocks) old new result → Answered rose (Some (continues ask)) told old new result
  continues_answered told ask task blocks old new result f p g =
      record { F = Some f.0; P = Some p.0; texts = (f.1, p.1); out = g.0; taken = g.1; answer = going_answers ask f.0 p.0 task blocks f.2 p.2 result g.0 g.2 }

  verdict_whole : (file plans : Bytes) (mode : Mode) {F P : Bytes} (task : TaskParts) (blocks : List ReadBlock) → IsTaskText F task → IsPlansText P blocks
      → (result : Status) (pieces : List Bytes) → AsOne (Verdict task mode blocks) result pieces → Whole rose (Some (checks file plans mode)) (Some F) (Some P) result pieces
  verdict_whole file plans mode task blocks t p status.Good pieces v = (v.0, v.1, (task, t, (blocks, p, v.2)))
  verdict_whole file plans mode task blocks t p status.BadList pieces v = (v.0, v.1, (task, t, (blocks, p, v.2)))
  verdict_whole file plans mode task blocks t p result pieces v = absurd (verdict_is task mode blocks result v.0 v.2)

  pub checks_answered : (told : Option Told) (file plans : Bytes) (mode : Mode) (task : TaskParts) (blocks : List ReadBlock) {old new : SinkView} {result : Status}
      → HasText told file (λ F. IsTaskText F task) → HasText told plans (λ P. IsPlansText P blocks)
      → PutsOutWith (OrFront (Verdict task mode blocks)) old new result
      → Answered rose (Some (checks file plans mode)) told old new result
  checks_answered told file plans mode task blocks {old = old} {new = new} {result = result} f p v =
      front_answered (Some (checks file plans mode)) told (Some f.0) (Some p.0) (Verdict task mode blocks) old new result
      (verdict_whole file plans mode task blocks f.2 p.2) (f.1, p.1) v
