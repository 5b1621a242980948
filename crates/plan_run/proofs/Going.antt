-- Lists that go on from an earlier one: what is known of it before the engine has answered, and from the first answer on.
use Rattle.std.proofs.Common.{◌≡◌, ◌∙◌, ap, sym, refl, subst, inl, inr, ℕ, ◌-◌, ◌<◌, ◌≤◌, ◌^◌, ◌⊎◌, List, [], ◌∷◌, ◌++◌, length, map, All, Option, Some, None, IfSome, IsSomeAnd, get_or, slice_get, append_assoc, arith}
use Rattle.std.specs.Option.{option_map_or}
use Rattle.std.specs.List.Sorted.{IsNonDecreasing}
use Rattle.std.proofs.lemmas.List.{append-nil}
use Rattle.std.proofs.lemmas.List.Elements.{All-nil, All-weaker}
use Rattle.symk_task.specs.declared.parts.Mode.{Mode}
use Rattle.symk_task.specs.declared.parts.TaskParts.{TaskParts}
use Rattle.symk_task.specs.Fits.{Fits}
use Rattle.symk_task.specs.Plans as meaning
use Rattle.symk_task.specs.Plans.{cost_of}
use Rattle.task_system.specs.System.{IsSystemPlanOf, IsRightOfSystem}
use Rattle.task_system.specs.System.{cost_in_system as system_cost}
use Rattle.task_system.specs.Computed.{system_of}
use Rattle.task_system.proofs.RunsLaw.{cost_law}
use Rattle.task_system.proofs.TraceLaw.{mode_law}
use Rattle.task_system.proofs.ListsLaw.{right_law}
use Rattle.lazy_plans.specs.Law.{Gave, NoneLeft, MayStop, top}
use Rattle.lazy_plans.specs.Rest.{Rest, IsGood, EndsBy}
use Rattle.lazy_plans.specs.declared.stop.Stop.TheVariants.{CostRange}
use Rattle.lazy_plans.proofs.ListLaw.{right_up_to, right_all, exhausted}
use Rattle.plan_run.specs.declared.earlier.Earlier.{Earlier}
use Rattle.plan_run.specs.Earlier.{IsEarlier, last_cost}
use Rattle.plan_run.specs.Missed.{MissesPlan}
use Rattle.plan_run.specs.Listable.{IsListable}
use Rattle.plan_run.proofs.Given.{IsGiven, IsHeld, none_within, plan_operators, given_more}

-- The engine has not answered yet: what pends is the rest of the earlier list.
pub record IsBegun (task : TaskParts) (mode : Mode) (limit : Option ℕ) (earlier : Earlier) (pends : List ℕ → Type 0) : Type 0 where
  pub is : IsEarlier task mode limit earlier
  pub rest : Rest (system_of task) mode earlier.plans pends

-- It gave these plans: the earlier list and they are a right one, and what pends costs no less than the last earlier plan.
pub record IsFurther (task : TaskParts) (mode : Mode) (limit : Option ℕ) (earlier : Earlier) (pends : List ℕ → Type 0) (plans : List (List ℕ)) : Type 0 where
  pub given : IsGiven task mode limit pends (earlier.plans ++ plans)
  pub above : (q : List ℕ) → pends q → earlier.dearest ≤ system_cost (system_of task) q

-- it gave none yet, or these
abbrev pub Owed : TaskParts → Mode → Option ℕ → Earlier → (List ℕ → Type 0) → List (List ℕ) → Type 0
Owed task mode limit earlier pends plans = ((plans ≡ []) × IsBegun task mode limit earlier pends) ⊎ IsFurther task mode limit earlier pends plans

-- the earlier list and these are given
abbrev pub Joined : TaskParts → Mode → Option ℕ → List (List ℕ) → (List ℕ → Type 0) → List (List ℕ) → Type 0
Joined task mode limit earlier pends plans = IsGiven task mode limit pends (earlier ++ plans)

map_same : (c d : List ℕ → ℕ) → ((p : List ℕ) → c p ≡ d p) → (plans : List (List ℕ)) → map c plans ≡ map d plans
map_same c d same [] = refl
map_same c d same (p ∷ plans) = ap (λ (z : ℕ). z ∷ map c plans) (same p) ∙ ap (λ (z : List ℕ). d p ∷ z) (map_same c d same plans)

ends_at : (task : TaskParts) (o : Option (List ℕ)) (c : ℕ) → option_map_or (cost_of task) o 0 ≤ c → IfSome o (λ last. system_cost (system_of task) last ≤ c)
ends_at task None c le = tt
ends_at task (Some last) c le = let same = cost_law task last in omega (arith, same, le)

cheaper_than : (task : TaskParts) (o : Option (List ℕ)) (p : List ℕ) → cost_of task p < option_map_or (cost_of task) o 0 → IsSomeAnd o (λ last. cost_of task p < cost_of task last)
cheaper_than task None p lt = absurd (omega (arith, lt))
cheaper_than task (Some last) p lt = lt

-- the list of no plans is an earlier one
pub none_earlier : (task : TaskParts) (mode : Mode) (limit : Option ℕ) → IsEarlier task mode limit (record { plans = []; dearest = 0 })
none_earlier task mode limit = record {
  each = All-nil (meaning.IsPlanOf task mode);
  different = λ i j lt within. tt;
  costs = λ i j d le within. absurd (omega (arith, within));
  cheap = All-nil (λ p. cost_of task p < 2 ^ 64);
  within = none_within task limit;
  last = refl;
  top = omega arith;
  few = omega arith;
}

-- no plan of an earlier list costs more than is wanted, in the words of the system
pub cheap_of : (task : TaskParts) (mode : Mode) (limit : Option ℕ) (earlier : Earlier) → IsEarlier task mode limit earlier → All (λ p. system_cost (system_of task) p ≤ top limit) earlier.plans
cheap_of task mode None earlier is = λ k d lt. (let same = cost_law task (get_or earlier.plans k d) in let below = is.cheap k d lt in omega (arith, same, below))
cheap_of task mode (Some most) earlier is = λ k d lt. (let same = cost_law task (get_or earlier.plans k d) in let below = is.within k d lt in omega (arith, same, below))

lt_le : (a b : ℕ) → a < b → a ≤ b
lt_le a b h = omega arith

module _ (task : TaskParts) (mode : Mode) (limit : Option ℕ) (earlier : Earlier) (fits : Fits task) where
  listable : IsEarlier task mode limit earlier → All (IsListable task) earlier.plans
  listable e k d lt = record { operators = plan_operators (system_of task) mode _ ((mode_law task mode _ fits).1 (e.each k d lt)); cost = e.cheap k d lt }

  good : IsEarlier task mode limit earlier → IsGood (system_of task) mode earlier.plans
  good e = record {
    each = All-weaker (meaning.IsPlanOf task mode) (IsSystemPlanOf (system_of task) mode) (λ p. (mode_law task mode p fits).1) earlier.plans e.each;
    different = e.different;
    costs = subst IsNonDecreasing (sym (map_same (system_cost (system_of task)) (cost_of task) (cost_law task) earlier.plans)) e.costs;
  }

  ends_by : IsEarlier task mode limit earlier → (c : ℕ) → earlier.dearest ≤ c → EndsBy (system_of task) earlier.plans c
  ends_by e c le = ends_at task (slice_get earlier.plans (length earlier.plans - 1)) c (subst (λ (n : ℕ). n ≤ c) e.last le)

  module _ (pends : List ℕ → Type 0) where
    right_begun : IsBegun task mode limit earlier pends → IsRightOfSystem (system_of task) mode earlier.plans → IsGiven task mode limit pends earlier.plans
    right_begun b right = record {
      promise = record { right = (right_law task mode earlier.plans fits).0 right; listable = listable b.is; within = b.is.within; end = tt };
      rest = b.rest;
    }

    -- it is right where all that pends costs no less
    right_by : IsBegun task mode limit earlier pends → (c : ℕ) → earlier.dearest ≤ c → ((q : List ℕ) → pends q → c ≤ system_cost (system_of task) q) → IsGiven task mode limit pends earlier.plans
    right_by b c le least = right_begun b (right_up_to (system_of task) mode earlier.plans pends b.rest (good b.is) c least (ends_by b.is c le))

    joined_none : (plans : List (List ℕ)) → plans ≡ [] → IsGiven task mode limit pends earlier.plans → Joined task mode limit earlier.plans pends plans
    joined_none plans none given =
        subst (λ (l : List (List ℕ)). IsGiven task mode limit pends l) (sym (ap (λ (l : List (List ℕ)). earlier.plans ++ l) none ∙ append-nil earlier.plans)) given

    -- after some plan was given
    pub joined_some : (plans : List (List ℕ)) → 1 ≤ length plans → Owed task mode limit earlier pends plans → Joined task mode limit earlier.plans pends plans
    joined_some plans some (inl h) = let none = ap length h.0 in absurd (omega (arith, none, some))
    joined_some plans some (inr f) = f.given

    -- where a plan is given that costs no less than the last earlier one
    pub joined_gave : (after : List ℕ → Type 0) (p : List ℕ) → Gave (system_of task) mode limit pends after p → earlier.dearest ≤ cost_of task p
        → (plans : List (List ℕ)) → Owed task mode limit earlier pends plans → Joined task mode limit earlier.plans pends plans
    joined_gave after p gave le plans (inl h) =
        let same = cost_law task p in
        joined_none plans h.0 (right_by h.1 (system_cost (system_of task) p) (omega (arith, same, le)) gave.least)
    joined_gave after p gave le plans (inr f) = f.given

module _ (task : TaskParts) (mode : Mode) (earlier : Earlier) (fits : Fits task) (pends : List ℕ → Type 0) where
  right_none : (limit : Option ℕ) → NoneLeft (system_of task) limit pends → IsBegun task mode limit earlier pends → IsGiven task mode limit pends earlier.plans
  right_none None none b =
      right_begun task mode None earlier fits pends b (right_all (system_of task) mode earlier.plans pends b.rest (good task mode None earlier fits b.is) (exhausted (system_of task) mode earlier.plans pends b.rest none))
  right_none (Some most) none b = right_by task mode (Some most) earlier fits pends b most b.is.top (λ q h. lt_le most (system_cost (system_of task) q) (none q h))

  -- where none is left
  pub joined_end : (limit : Option ℕ) → NoneLeft (system_of task) limit pends → (plans : List (List ℕ)) → Owed task mode limit earlier pends plans → Joined task mode limit earlier.plans pends plans
  joined_end limit none plans (inl h) = joined_none task mode limit earlier fits pends plans h.0 (right_none limit none h.1)
  joined_end limit none plans (inr f) = f.given

  right_range : (limit : Option ℕ) → MayStop (system_of task) limit pends CostRange
      → IsBegun task mode limit earlier pends → IsGiven task mode limit pends earlier.plans
  right_range (Some most) stops b = absurd stops
  right_range None stops b =
      right_by task mode None earlier fits pends b (2 ^ 64 - 1) b.is.top (λ q h. lt_le (2 ^ 64 - 1) (system_cost (system_of task) q) (stops.1 q h))

  -- where each that is left is too dear
  pub joined_range : (limit : Option ℕ) → MayStop (system_of task) limit pends CostRange → (plans : List (List ℕ))
      → Owed task mode limit earlier pends plans → Joined task mode limit earlier.plans pends plans
  joined_range limit stops plans (inl h) = joined_none task mode limit earlier fits pends plans h.0 (right_range limit stops h.1)
  joined_range limit stops plans (inr f) = f.given

module _ (task : TaskParts) (mode : Mode) (limit : Option ℕ) (earlier : Earlier) (fits : Fits task) (pends after : List ℕ → Type 0) (p : List ℕ) (gave : Gave (system_of task) mode limit pends after p) where
  -- what pends is a plan
  pub owed_plan : (plans : List (List ℕ)) → Owed task mode limit earlier pends plans → IsSystemPlanOf (system_of task) mode p
  owed_plan plans (inl h) = ((h.1.rest p).0 gave.pended).0
  owed_plan plans (inr f) = ((f.given.rest p).0 gave.pended).0

  -- one plan more
  pub further_more : IsHeld limit → earlier.dearest ≤ cost_of task p → (plans : List (List ℕ)) → Joined task mode limit earlier.plans pends plans → IsFurther task mode limit earlier after (plans ++ p ∷ [])
  further_more held le plans given =
      let same = cost_law task p in
      record {
        given = subst (λ (l : List (List ℕ)). IsGiven task mode limit after l) (append_assoc earlier.plans plans (p ∷ [])) (given_more task mode limit pends after (earlier.plans ++ plans) p fits held given gave);
        above = λ q h. let least = gave.least q ((gave.rest q).0 h).0 in omega (arith, same, le, least);
      }

  -- the earlier list misses the plan that is given, if it is cheaper than the last one, and nothing was given before
  pub misses : cost_of task p < earlier.dearest → (plans : List (List ℕ)) → Owed task mode limit earlier pends plans
      → (plans ≡ []) × MissesPlan task mode earlier.plans (cost_of task p)
  misses lt plans (inl h) =
      let here = (h.1.rest p).0 gave.pended in
      let below : cost_of task p < last_cost task earlier.plans = subst (λ (n : ℕ). cost_of task p < n) h.1.is.last lt in (
        h.0,
        record {
          plan = p;
          missed = record { plan = (mode_law task mode p fits).0 here.0; unlisted = here.1; cheaper = cheaper_than task (slice_get earlier.plans (length earlier.plans - 1)) p below };
          costs = refl;
          least = λ q m.
              let least = gave.least q ((h.1.rest q).1 ((mode_law task mode q fits).1 m.plan, m.unlisted)) in
              let one = cost_law task p in
              let two = cost_law task q in
              omega (arith, least, one, two);
        },
      )
  misses lt plans (inr f) =
      let above = f.above p gave.pended in
      let same = cost_law task p in
      absurd (omega (arith, above, same, lt))
