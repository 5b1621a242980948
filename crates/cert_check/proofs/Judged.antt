-- What is asked of a set of states, and what the answers say.
use Rattle.std.proofs.Common.{◌≡◌, ◌≢◌, ◌↔◌, ℕ, ◌<◌, inl, inr, Bool, true, false, not, ◌&&◌, List, refl, sym, ◌∙◌, ap, subst, true≢false}
use Rattle.std.specs.List.{All}
use Rattle.std.proofs.lemmas.Bool.{and_parts, and_from}
use Rattle.symk_task.specs.declared.parts.TaskParts.{TaskParts}
use Rattle.symk_task.specs.Variables.{IsState}
use Rattle.symk_task.specs.Fits.{Fits}
use Rattle.symk_task.specs.Steps.{Holds, Step as Leads}
use Rattle.symk_task.specs.Plans.{IsInitial}
use Rattle.symk_task.proofs.Running.{step_state}
use Rattle.symk_task.proofs.Starting.{one_initial}
use Rattle.bdd_table.specs.declared.node.Node.{Node}
use Rattle.bdd_table.specs.Diagram.{Bits, means}
use Rattle.var_order.specs.Layout.{Layout, IsOrderOf, bits, level_at}
use Rattle.var_order.specs.Codes.{IsCode}
use Rattle.var_order.proofs.Coding.{coded}
use Rattle.var_order.proofs.Laying.{state_of, of_state}
use Rattle.bdd_sets.specs.Sets.{HasCodedState, IsOfState, IsSetOfStates}
use Rattle.transitions.specs.Relations.{Names, HoldsForState, IsSet, Relates, Successor}
use Rattle.transitions.proofs.SameBits.{same_bits}
use Rattle.transitions.proofs.Using.{connects_related}
use Rattle.transitions.proofs.ImageLaw.{true_or_false}
use Rattle.certificates.specs.Inductive.{Begins, ClosedBy}
use Rattle.cert_check.specs.declared.judging.CertPart.TheVariants.{Initial, Step, Goal}
use Rattle.cert_check.specs.declared.judging.CertVerdict.{CertVerdict}
use Rattle.cert_check.specs.declared.judging.CertVerdict.TheVariants.{Yes, No}
use Rattle.cert_check.specs.Judging.{LeavesBy, FirstLeaves, MeetsGoal, HasNoGoalState, JudgesCert}

-- members are those of the bits alone
pub member_alike : (o : Layout) (F G : Bits → Bool) (s : List ℕ) → ((b : Bits) → G b ≡ F b) → HoldsForState o F s ↔ HoldsForState o G s
member_alike o F G s e = ((λ (b, code, h). (b, code, e b ∙ h)), (λ (b, code, h). (b, code, sym (e b) ∙ h)))

-- Sets that have the same states are judged alike.
module _ (task : TaskParts) (fits : Fits task) (I J : List ℕ → Type 0) (same : (s : List ℕ) → IsState task s → I s ↔ J s) where
  pub begins_alike : Begins task I → Begins task J
  begins_alike h s i = (same s i.state).0 (h s i)

  pub closed_alike : (a : ℕ) → ClosedBy task I a → ClosedBy task J a
  closed_alike a h s t state member step = (same t (step_state task s a t fits state step)).0 (h s t state ((same s state).1 member) step)

  pub leaves_alike : (a : ℕ) → LeavesBy task I a → LeavesBy task J a
  leaves_alike a (s, t, state, member, step, none) = (
    s,
    t,
    state,
    (same s state).0 member,
    step,
    λ h. none
        ((same t (step_state task s a t fits state step)).1 h),
  )

  pub first_alike : (a : ℕ) → FirstLeaves task I a → FirstLeaves task J a
  first_alike a (before, leaves) = ((λ b lt. closed_alike b (before b lt)), leaves_alike a leaves)

  pub meets_alike : MeetsGoal task I → MeetsGoal task J
  meets_alike (s, state, member, goal) = (s, state, (same s state).0 member, goal)

  pub misses_alike : HasNoGoalState task I → HasNoGoalState task J
  misses_alike h s state member goal = h s state ((same s state).1 member) goal

  pub judged_alike : (v : CertVerdict) → JudgesCert task I v → JudgesCert task J v
  judged_alike Yes h = record { initial = begins_alike h.initial; closed = λ a. closed_alike a (h.closed a); goal = misses_alike h.goal }
  judged_alike (No Initial) (s, i, none) = (s, i, λ h. none ((same s i.state).1 h))
  judged_alike (No (Step op)) (begins, first) = (begins_alike begins, first_alike op first)
  judged_alike (No Goal) (begins, closed, meets) = (begins_alike begins, (λ a. closed_alike a (closed a)), meets_alike meets)

-- and the other way round
pub judged_back : (task : TaskParts) → Fits task → (I J : List ℕ → Type 0)
    → ((s : List ℕ) → IsState task s → I s ↔ J s) → (v : CertVerdict) → JudgesCert task J v → JudgesCert task I v
judged_back task fits I J same = judged_alike task fits J I (λ s state. (let h = same s state in (h.1, h.0)))

not_false : (b : Bool) → not b ≡ true → b ≡ false
not_false true e = absurd (true≢false (sym e))
not_false false e = refl

module _ (task : TaskParts) (o : Layout) (fits : Fits task) (order : IsOrderOf task o) where
  -- a state has bits
  pub some_code : (s : List ℕ) → IsState task s → (b : Bits) × IsCode o 0 s b
  some_code s state = (let c = coded o s order.layout (state_of task o s order state) in (c.0, c.1))

  -- What one operator leads to.
  module _ (op : ℕ) (places : List ℕ) (R F G H : Bits → Bool)
      (relates : Relates o places (λ s t. Leads task s op t) R) (set : IsSet o F)
      (names : Names o (Successor o places R F) G) (minus : (b : Bits) → H b ≡ (G b && not (F b))) where
    pub leaves : (b : Bits) → H b ≡ true → LeavesBy task (HoldsForState o F) op
    leaves b h =
        let parts = and_parts (G b) (not (F b)) (sym (minus b) ∙ h) in
        let out = not_false (F b) parts.1 in
        let x = (names b).0 parts.0 in
        let t = x.0 in
        let from = x.3 in
        let s = from.0 in (
          s,
          t,
          of_state task o s order from.1,
          from.2,
          (connects_related o places (λ s t. Leads task s op t) R s t relates from.1 x.1).0 from.3,
          λ member. true≢false (sym ((set b).1 (t, x.1, x.2, member)) ∙ out),
        )

    pub closed : ((b : Bits) → H b ≡ false) → ClosedBy task (HoldsForState o F) op
    closed none s t state member step =
        let next = step_state task s op t fits state step in
        let ss = state_of task o s order state in
        let st = state_of task o t order next in
        let code = some_code t next in
        let b = code.0 in
        let connects = (connects_related o places (λ s t. Leads task s op t) R s t relates ss st).1 step in
        let reached : G b ≡ true = (names b).1 (t, st, code.1, (s, ss, member, connects)) in
        elim (true_or_false (F b)) [
          | inl within ↦ (b, code.1, within)
          | inr out ↦ absurd (true≢false (sym (minus b ∙ and_from (G b) (not (F b)) reached (ap not out)) ∙ none b))
        ]

  -- Where the goal holds.
  module _ (F A M : Bits → Bool) (set : IsSet o F) (goals : (s : List ℕ) (b : Bits) → IsState task s → IsCode o 0 s b
      → (A b ≡ true) ↔ All (Holds task s) task.goal) (both : (b : Bits) → M b ≡ (F b && A b)) where
    pub meets : (b : Bits) → M b ≡ true → MeetsGoal task (HoldsForState o F)
    meets b h =
        let parts = and_parts (F b) (A b) (sym (both b) ∙ h) in
        let x = (set b).0 parts.0 in
        let state = of_state task o x.0 order x.1 in
        (x.0, state, x.3, (goals x.0 b state x.2).0 parts.1)

    pub misses : ((b : Bits) → M b ≡ false) → HasNoGoalState task (HoldsForState o F)
    misses none s state (b, code, h) goal = true≢false (sym (both b ∙ and_from (F b) (A b) h ((goals s b state code).1 goal)) ∙ none b)

  -- The members of a set, its states alone.
  module _ (V S M : Bits → Bool) (valid : (b : Bits) → (V b ≡ true) ↔ IsOfState o b)
      (alone : (b c : Bits) → ((p : ℕ) → p < bits o → b (level_at 0 p) ≡ c (level_at 0 p)) → S b ≡ S c)
      (both : (b : Bits) → M b ≡ (V b && S b)) where
    pub members_set : IsSet o M
    members_set b = (
      (λ h. (let parts = and_parts (V b) (S b) (sym (both b) ∙ h) in let x = (valid b).0 parts.0 in (x.0, x.1, x.2, (b, x.2, h)))),
      (λ (s, state, code, (c, also, h)). (
          let parts = and_parts (V c) (S c) (sym (both c) ∙ h) in
          both b ∙ and_from (V b) (S b) ((valid b).1 (s, state, code)) (alone b c (λ p lt. same_bits o s b c p order.layout code also lt) ∙ parts.1))),
    )

    pub members_are : (s : List ℕ) → IsState task s → HoldsForState o M s ↔ HoldsForState o S s
    members_are s state = (
      (λ (b, code, h). (b, code, (and_parts (V b) (S b) (sym (both b) ∙ h)).1)),
      (λ (b, code, h). (b, code, both b ∙ and_from (V b) (S b) ((valid b).1 (s, state_of task o s order state, code)) h)),
    )

  -- whether a set has a state, asked of all its bits or of some
  pub has_is : (nodes : List Node) (set : ℕ) (s : List ℕ) → IsState task s → IsSetOfStates o nodes set
      → HasCodedState o nodes set s ↔ HoldsForState o (means nodes set) s
  has_is nodes set s state alone = (
    (λ h. (let c = some_code s state in (c.0, c.1, h c.0 c.1))),
    (λ (c, code, h) b also. alone b c (λ p lt. same_bits o s b c p order.layout also code lt) ∙ h),
  )

-- the initial state alone is asked for
pub begins_at : (task : TaskParts) (I : List ℕ → Type 0) (s : List ℕ) → IsInitial task s → I s → Begins task I
begins_at task I s i member t also = subst I (one_initial task s t i also) member
