-- Lists of plans that an engine gives.
use Rattle.std.proofs.Common.{◌≡◌, sym, refl, ℕ, ◌+◌, ◌<◌, ◌≤◌, ◌⊎◌, List, [], ◌∷◌, ◌++◌, Bool, true, false, cond, not, subst, inl, inr, length, Option, None, Some, Result, MatchResult, IfOk, arith}
use Rattle.symk_io.specs.View.{Bytes, SinkView}
use Rattle.symk_task.specs.declared.parts.Mode.{Mode}
use Rattle.symk_task.specs.declared.parts.TaskParts.{TaskParts}
use Rattle.symk_task.specs.Plans.{cost_of}
use Rattle.symk_task.specs.Fits.{Fits}
use Rattle.task_system.specs.Computed.{system_of}
use Rattle.lazy_plans.specs.Law.{Gave, NoneLeft, MayStop}
use Rattle.lazy_plans.specs.declared.stop.Stop.TheVariants.{CostRange}
use Rattle.plan_out.specs.declared.end.End.{End}
use Rattle.plan_out.specs.declared.end.End.TheVariants as end
use Rattle.plan_out.specs.Texts.{block, end_line}
use Rattle.run_status.specs.Sent.{TookPiece, TookFront}
use Rattle.run_status.specs.Ends.{EndsWithText, PutsOutWith}
use Rattle.plan_run.specs.Missed.{MissesPlan}
use Rattle.plan_run.specs.Lists.{Aim, aim_after, OrPart, IsEndOf, all_end, asked, end_status, gap_text}
use Rattle.plan_run.specs.declared.options.Wanted.{Wanted}
use Rattle.plan_run.specs.declared.earlier.Earlier.{Earlier}
use Rattle.run_status.specs.declared.status.Status.{Status}
use Rattle.run_status.specs.declared.status.Status.TheVariants as status
use Rattle.plan_run.proofs.Given.{IsHeld, list_reached, list_goes_on, list_exhausted, list_in_range}
use Rattle.plan_run.proofs.Going.{Owed, Joined, IsFurther, joined_some, joined_gave, joined_end, joined_range, further_more, misses}
use Rattle.plan_run.proofs.Listed.{Listed, next_number, listed_as, listed_more, none_stops, listed_stops, block_stops, list_ends, gap_ends}

pub off_by_not : (b : Bool) → not b ≡ true → b ≡ false
off_by_not true e = absurd (cc)
off_by_not false e = refl

pub on_by_not : (b : Bool) → not b ≡ false → b ≡ true
on_by_not true e = refl
on_by_not false e = absurd (cc)

-- the same end
pub ended_as : (why other : End) (old new : SinkView) (result : Status) → why ≡ other
    → EndsWithText (end_status why) (end_line why) old new result
    → EndsWithText (end_status other) (end_line other) old new result
ended_as why other old new result e ends = subst (λ (w : End). EndsWithText (end_status w) (end_line w) old new result) e ends

-- more are asked for than are listed so far
asked_by : (more : Bool) (count n : ℕ) → n < count → n < cond more (count + 1) count
asked_by true count n lt = omega (arith, lt)
asked_by false count n lt = lt

pub asked_more : (wanted : Wanted) (n : ℕ) → n < wanted.count → n < asked wanted
asked_more wanted n lt = asked_by wanted.more wanted.count n lt

-- and one more than are listed at the end, where it is looked for
asked_next_by : (more : Bool) (count n : ℕ) → more ≡ true → n ≡ count → n < cond more (count + 1) count
asked_next_by true count n e is = omega (arith, is)
asked_next_by false count n e is = absurd (cc)

pub asked_next : (wanted : Wanted) (n : ℕ) → wanted.more ≡ true → n ≡ wanted.count → n < asked wanted
asked_next wanted n e is = asked_next_by wanted.more wanted.count n e is

-- fewer are listed, and all that are wanted
fewer : (limit : Option ℕ) (wanted : Wanted) (before n : ℕ) → n < asked wanted → IsEndOf wanted before n (all_end limit (before + n))
fewer None wanted before n lt = (refl, lt)
fewer (Some most) wanted before n lt = (refl, lt)

module _ (task : TaskParts) (mode : Mode) (wanted : Wanted) (limit : Option ℕ) (earlier : Earlier) (fits : Fits task) (held : IsHeld limit) (pends : List ℕ → Type 0) (old : SinkView) where
  abbrev here : Aim
  here = aim_after task mode wanted limit earlier.plans

  -- as much as the engine gave so far
  abbrev pub So : SinkView → ℕ → Type 0
  So mid count = Listed here (Owed task mode limit earlier pends) old mid count

  abbrev Whole : SinkView → ℕ → Type 0
  Whole mid count = Listed here (Joined task mode limit earlier.plans pends) old mid count

  owed_stops : (new : SinkView) (count : ℕ) (result : Status) → (result ≡ status.WriteFault)
      ⊎ (result ≡ status.Memory) → count ≤ wanted.count → (l : So new count)
      → Owed task mode limit earlier pends l.plans → PutsOutWith (OrPart here) old new result
  owed_stops new count result why le l (inl h) = none_stops here l.plans old new result h.0 why l.took
  owed_stops new count result why le l (inr f) =
      let whole : Whole new count = record { plans = l.plans; holds = f.given; number = l.number; took = l.took } in
      listed_stops here (Joined task mode limit earlier.plans pends) old new count result (λ plans h. h.promise) why whole le

  -- the list stops after so many plans
  pub given_stops : (new : SinkView) (count : ℕ) (result : Status) → (result ≡ status.WriteFault)
      ⊎ (result ≡ status.Memory) → So new count → count ≤ wanted.count → PutsOutWith (OrPart here) old new result
  given_stops new count result why l le = owed_stops new count result why le l l.holds

  some_listed : (mid : SinkView) (count : ℕ) → So mid count → 1 ≤ wanted.count → count ≡ wanted.count → Whole mid count
  some_listed mid count l least e =
      let number = l.number in
      record { plans = l.plans; holds = joined_some task mode limit earlier fits pends l.plans (omega (arith, number, least, e)) l.holds; number = l.number; took = l.took }

  -- as many plans as were asked for are listed, and no more was looked for
  pub reached_ends : (mid new : SinkView) (count : ℕ) (result : Status) → So mid count → 1 ≤ wanted.count → count ≡ wanted.count → wanted.more ≡ false
      → EndsWithText status.Reached (end_line (end.Reached (length earlier.plans + wanted.count))) mid new result → PutsOutWith (OrPart here) old new result
  reached_ends mid new count result l least e no_more ends =
      let n : length earlier.plans + wanted.count ≡ length earlier.plans + count = omega (arith, e) in
      list_ends here (end.Reached (length earlier.plans + wanted.count)) new result (some_listed mid count l least e)
      (λ plans h. list_reached task mode limit (earlier.plans ++ plans) (length earlier.plans + wanted.count) h.promise) (n, e, no_more) ends

  -- no plan is left
  pub none_ends : (mid new : SinkView) (count : ℕ) (result : Status) → So mid count → count < asked wanted → NoneLeft (system_of task) limit pends
      → EndsWithText (end_status (all_end limit (length earlier.plans + count)))
      (end_line (all_end limit (length earlier.plans + count))) mid new result
      → PutsOutWith (OrPart here) old new result
  none_ends mid new count result l lt none ends =
      let why = all_end limit (length earlier.plans + count) in
      let whole = listed_as here (Owed task mode limit earlier pends) (Joined task mode limit earlier.plans pends) old mid count (joined_end task mode earlier fits pends limit none) l in
      list_ends here why new result whole
      (λ plans h. list_exhausted task mode limit pends (earlier.plans ++ plans) (length earlier.plans + count) fits h none) (fewer limit wanted (length earlier.plans) count lt) ends

  -- only plans that 64 bits don't hold the cost of are left
  pub range_ends : (mid new : SinkView) (count : ℕ) (result : Status) → So mid count → count < asked wanted → MayStop (system_of task) limit pends CostRange
      → EndsWithText status.CostRange (end_line end.CostRange) mid new result → PutsOutWith (OrPart here) old new result
  range_ends mid new count result l lt stops ends =
      let whole = listed_as here (Owed task mode limit earlier pends) (Joined task mode limit earlier.plans pends) old mid count (joined_range task mode earlier fits pends limit stops) l in
      list_ends here end.CostRange new result whole
      (λ plans h. list_in_range task mode limit pends (earlier.plans ++ plans) fits h stops) lt ends

  module _ (after : List ℕ → Type 0) (plan : List ℕ) (gave : Gave (system_of task) mode limit pends after plan) where
    -- there is another
    pub more_ends : (mid new : SinkView) (count : ℕ) (result : Status) → So mid count → 1 ≤ wanted.count → count ≡ wanted.count → wanted.more ≡ true
        → EndsWithText status.MoreLeft (end_line (end.More (length earlier.plans + wanted.count))) mid new result → PutsOutWith (OrPart here) old new result
    more_ends mid new count result l least e more ends =
        let n : length earlier.plans + wanted.count ≡ length earlier.plans + count = omega (arith, e) in
        list_ends here (end.More (length earlier.plans + wanted.count)) new result (some_listed mid count l least e)
        (λ plans h. list_goes_on task mode limit pends after (earlier.plans ++ plans) plan (length earlier.plans + wanted.count) fits h gave) (n, e, more) ends

    -- the earlier list misses the plan
    pub gave_gap : {E : Type 0} (made : Result Bytes E) (mid new : SinkView) (count cost : ℕ) (result : Status) → So mid count → cost ≡ cost_of task plan → cost < earlier.dearest
        → IfOk made (λ text. text ≡ gap_text cost)
        → MatchResult made (λ text. EndsWithText status.Gap text mid new result)
        (λ _. (result ≡ status.Memory) × (new ≡ mid)) → PutsOutWith (OrPart here) old new result
    gave_gap made mid new count cost result l e lt is ends =
        let below : cost_of task plan < earlier.dearest = omega (arith, e, lt) in
        gap_ends here cost made new result l
        (λ plans h. (let m = misses task mode limit earlier fits pends after plan gave below plans h in
        (m.0, subst (λ (n : ℕ). MissesPlan task mode earlier.plans n) (sym e) m.1))) is ends

    module _ (le : earlier.dearest ≤ cost_of task plan) where
      joined : (mid : SinkView) (count : ℕ) → So mid count → Whole mid count
      joined mid count l = listed_as here (Owed task mode limit earlier pends) (Joined task mode limit earlier.plans pends) old mid count (joined_gave task mode limit earlier fits pends after plan gave le) l

      further : (plans : List (List ℕ)) → Joined task mode limit earlier.plans pends plans → IsFurther task mode limit earlier after (plans ++ plan ∷ [])
      further = further_more task mode limit earlier fits pends after plan gave held le

      -- one more block went out
      pub given_goes_on : (then new : SinkView) (count : ℕ) → So then count → TookPiece (block task (next_number here count) plan) then new
          → Listed here (Owed task mode limit earlier after) old new (count + 1)
      given_goes_on then new count l put =
          listed_more here (Joined task mode limit earlier.plans pends) (Owed task mode limit earlier after) old then new count plan (λ plans h. inr (further plans h)) (joined then count l) put

      -- a part of one more block went out
      pub given_breaks : (then new : SinkView) (count : ℕ) (result : Status) → (result ≡ status.WriteFault) ⊎ (result ≡ status.Memory) → So then count → count < wanted.count
          → TookFront (block task (next_number here count) plan) then new → PutsOutWith (OrPart here) old new result
      given_breaks then new count result why l lt put =
          block_stops here (Joined task mode limit earlier.plans after) new plan result (λ plans h. h.promise) why (λ plans h. (further plans h).given) (joined then count l) lt put
