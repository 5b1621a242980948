-- Lists up to a cost that is named in one way or another.
use Rattle.std.proofs.Common.{◌≡◌, sym, refl, subst, inl, inr, ℕ, ◌<◌, ◌^◌, ◌⊎◌, List, [], ◌∷◌, Option, None, arith}
use Rattle.symk_io.specs.View.{Bytes, SinkView}
use Rattle.symk_task.specs.declared.parts.Mode.{Mode}
use Rattle.symk_task.specs.declared.parts.Mode.TheVariants.{TopK}
use Rattle.symk_task.specs.declared.parts.TaskParts.{TaskParts}
use Rattle.symk_task.specs.Plans.{IsPlan, Same, cost_of}
use Rattle.symk_task.specs.Fits.{Fits}
use Rattle.task_system.specs.Computed.{system_of}
use Rattle.task_system.proofs.RunsLaw.{cost_law}
use Rattle.task_system.proofs.TraceLaw.{mode_law}
use Rattle.lazy_plans.proofs.ListLaw.{any_none}
use Rattle.lazy_plans.specs.Law.{Gave, NoneLeft, MayStop}
use Rattle.lazy_plans.specs.declared.stop.Stop.TheVariants.{CostRange}
use Rattle.plan_out.specs.declared.end.End.{End}
use Rattle.plan_out.specs.declared.end.End.TheVariants as end
use Rattle.plan_out.specs.Texts.{end_line}
use Rattle.plan_run.specs.declared.options.Wanted.{Wanted}
use Rattle.plan_run.specs.declared.options.Reach.{Reach}
use Rattle.plan_run.specs.declared.options.Reach.TheVariants.{Percent}
use Rattle.run_status.specs.declared.status.Status.{Status}
use Rattle.run_status.specs.declared.status.Status.TheVariants as status
use Rattle.run_status.specs.Sent.{Sent, nothing, TookFront}
use Rattle.run_status.specs.Ends.{EndsWithText, FrontOf, PutsOutWith}
use Rattle.plan_run.specs.Lists.{aim, end_status, Listing, MayCome, PartListing, WholeOrPart, OrPart}
use Rattle.plan_run.specs.Reaches.{IsLeastCost, AllDear, NoPlan, IsLimit, IsEndOfNone, MayList, MayPart, OrReached}
use Rattle.plan_run.proofs.Given.{IsGiven}
use Rattle.run_status.proofs.Took.{all_of, took_nothing, took_piece, took_front, front_of_last}

-- Parts of one kind are parts of another.
fronts : (Whole Other : Status → List Bytes → Type 0) → ((result : Status) (pieces : List Bytes) → Whole result pieces → Other result pieces) → (out : Sent) → FrontOf Whole out → FrontOf Other out
fronts Whole Other also out (inl none) = inl none
fronts Whole Other also out (inr f) = inr (f.0, f.1, also f.0 f.1 f.2, f.3)

module _ (Whole Other : Status → List Bytes → Type 0) (Part Rest : Sent → Type 0) (also : (result : Status) (pieces : List Bytes) → Whole result pieces → Other result pieces) (too : (out : Sent) → Part out → Rest out) where
  broken : (out : Sent) → FrontOf Whole out ⊎ Part out → FrontOf Other out ⊎ Rest out
  broken out (inl f) = inl (fronts Whole Other also out f)
  broken out (inr p) = inr (too out p)

  pub whole_or_part : (result : Status) (out : Sent) → WholeOrPart Whole Part result out → WholeOrPart Other Rest result out
  whole_or_part status.WriteFault out f = broken out f
  whole_or_part status.Memory out f = broken out f
  whole_or_part status.Reached out m = (also status.Reached out.pieces m.0, m.1)
  whole_or_part status.MoreLeft out m = (also status.MoreLeft out.pieces m.0, m.1)
  whole_or_part status.Good out m = (also status.Good out.pieces m.0, m.1)
  whole_or_part status.Shown out m = (also status.Shown out.pieces m.0, m.1)
  whole_or_part status.Proved out m = (also status.Proved out.pieces m.0, m.1)
  whole_or_part status.Refuted out m = (also status.Refuted out.pieces m.0, m.1)
  whole_or_part status.Exhausted out m = (also status.Exhausted out.pieces m.0, m.1)
  whole_or_part status.BadList out m = (also status.BadList out.pieces m.0, m.1)
  whole_or_part status.Bounded out m = (also status.Bounded out.pieces m.0, m.1)
  whole_or_part status.Gap out m = (also status.Gap out.pieces m.0, m.1)
  whole_or_part status.HasPlan out m = (also status.HasPlan out.pieces m.0, m.1)
  whole_or_part status.NotShown out m = (also status.NotShown out.pieces m.0, m.1)
  whole_or_part status.Offending out m = (also status.Offending out.pieces m.0, m.1)
  whole_or_part status.Usage out m = (also status.Usage out.pieces m.0, m.1)
  whole_or_part status.TooLong out m = (also status.TooLong out.pieces m.0, m.1)
  whole_or_part status.Unreadable out m = (also status.Unreadable out.pieces m.0, m.1)
  whole_or_part status.CostRange out m = (also status.CostRange out.pieces m.0, m.1)

-- no plan is missed by an empty list
no_gap : (task : TaskParts) (mode : Mode) (wanted : Wanted) (limit : Option ℕ) (result : Status) (pieces : List Bytes) → MayCome (aim task mode wanted limit) result pieces → Listing (aim task mode wanted limit) result pieces
no_gap task mode wanted limit result pieces (inl l) = l
no_gap task mode wanted limit result pieces (inr g) = absurd g.misses.missed.cheaper

-- a list up to a greatest cost, or to none, is one that is asked for
pub limited_lists : (task : TaskParts) (mode : Mode) (wanted : Wanted) (reach : Reach) (limit : Option ℕ) (old new : SinkView) (result : Status) → IsLimit task reach limit
    → PutsOutWith (OrPart (aim task mode wanted limit)) old new result → PutsOutWith (OrReached task mode wanted reach) old new result
limited_lists task mode wanted reach limit old new result is p = (
  p.0,
  p.1,
  whole_or_part (MayCome (aim task mode wanted limit)) (MayList task mode wanted reach) (PartListing (aim task mode wanted limit)) (MayPart task mode wanted reach)
      (λ result pieces l. inl (limit, is, no_gap task mode wanted limit result pieces l)) (λ out l. (limit, is, l)) result p.0 p.2,
)

-- out of memory, before anything is put
pub memory_reaches : (task : TaskParts) (mode : Mode) (wanted : Wanted) (reach : Reach) (old : SinkView)
    → PutsOutWith (OrReached task mode wanted reach) old old status.Memory
memory_reaches task mode wanted reach old = (nothing, took_nothing old, inl (inl refl))

-- the line that says why no plan is listed
whole_end : (Whole : Status → List Bytes → Type 0) (Part : Sent → Type 0) (why : End) (pieces : List Bytes) → Whole (end_status why) pieces → WholeOrPart Whole Part (end_status why) (all_of pieces)
whole_end Whole Part (end.Reached n) pieces l = (l, refl)
whole_end Whole Part (end.More n) pieces l = (l, refl)
whole_end Whole Part (end.Bounded n) pieces l = (l, refl)
whole_end Whole Part (end.Exhausted n) pieces l = (l, refl)
whole_end Whole Part end.CostRange pieces l = (l, refl)

stopped_end : (Whole : Status → List Bytes → Type 0) (Part : Sent → Type 0) (result : Status) (out : Sent) → (result ≡ status.WriteFault) ⊎ (result ≡ status.Memory) → FrontOf Whole out → WholeOrPart Whole Part result out
stopped_end Whole Part result out (inl e) f = subst (λ s. WholeOrPart Whole Part s out) (sym e) (inl f)
stopped_end Whole Part result out (inr e) f = subst (λ s. WholeOrPart Whole Part s out) (sym e) (inl f)

part_end : (Whole : Status → List Bytes → Type 0) (Part : Sent → Type 0) (why : End) (old new : SinkView) (result : Status) → Whole (end_status why) (end_line why ∷ []) → (result ≡ status.WriteFault) ⊎ (result ≡ status.Memory)
    → TookFront (end_line why) old new → PutsOutWith (WholeOrPart Whole Part) old new result
part_end Whole Part why old new result whole stop took =
    let p = took_front (end_line why) old new took in
    (record { pieces = []; rest = _ }, p.1, stopped_end Whole Part result _ stop (inr (end_status why, end_line why ∷ [], whole, front_of_last [] (end_line why) p.0 _ refl)))

line_puts : (Whole : Status → List Bytes → Type 0) (Part : Sent → Type 0) (why : End) (old new : SinkView)
    (result : Status) → Whole (end_status why) (end_line why ∷ [])
    → EndsWithText (end_status why) (end_line why) old new result
    → PutsOutWith (WholeOrPart Whole Part) old new result
line_puts Whole Part why old new result whole (inl h) =
    (all_of (end_line why ∷ []), took_piece (end_line why) old new h.1, subst (λ s. WholeOrPart Whole Part s (all_of (end_line why ∷ []))) (sym h.0) (whole_end Whole Part why (end_line why ∷ []) whole))
line_puts Whole Part why old new result whole (inr (inl h)) = part_end Whole Part why old new result whole (inl h.0) h.1
line_puts Whole Part why old new result whole (inr (inr h)) = part_end Whole Part why old new result whole (inr h.0) h.1

pub none_lists : (task : TaskParts) (mode : Mode) (wanted : Wanted) (percent : ℕ) (why : End) (old new : SinkView)
    (result : Status) → IsEndOfNone task why → EndsWithText (end_status why) (end_line why) old new result
    → PutsOutWith (OrReached task mode wanted (Percent percent)) old new result
none_lists task mode wanted percent why old new result is ends =
    line_puts (MayList task mode wanted (Percent percent)) (MayPart task mode wanted (Percent percent)) why old new result (inr (record { ended = why; why = is; says = refl; pieces = refl })) ends

-- What the first plan costs.
module _ (task : TaskParts) (fits : Fits task) (pends : List ℕ → Type 0) (given : IsGiven task TopK None pends []) where
  open_plan : (p : List ℕ) → IsPlan task p → pends p
  open_plan p plan = (given.rest p).1 ((mode_law task TopK p fits).1 plan, λ listed. any_none (Same TopK p) listed)

  pub least_given : (after : List ℕ → Type 0) (p : List ℕ) (c : ℕ) → Gave (system_of task) TopK None pends after p → c ≡ cost_of task p → c < 2 ^ 64 → IsLeastCost task c × (c < 2 ^ 64)
  least_given after p c gave e lt =
      let plan = (mode_law task TopK p fits).0 ((given.rest p).0 gave.pended).0 in
      let least : IsLeastCost task c = (
        (p, plan, sym e),
        λ q other. (let least = gave.least q (open_plan q other) in let one = cost_law task p in let two = cost_law task q in omega (arith, e, least, one, two)),
      ) in
      (least, lt)

  pub never_given : NoneLeft (system_of task) None pends → NoPlan task
  never_given none p plan = none p (open_plan p plan)

  pub dear_given : MayStop (system_of task) None pends CostRange → AllDear task
  dear_given stops =
      let some = stops.0 in (
        (some.0, (mode_law task TopK some.0 fits).0 ((given.rest some.0).0 some.1).0),
        λ p plan. (let dear = stops.1 p (open_plan p plan) in let same = cost_law task p in omega (arith, dear, same)),
      )
