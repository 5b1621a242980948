-- What is known of a list of blocks of which none fails.
use Rattle.std.proofs.Common.{◌≡◌, ℕ, zero, suc, ◌+◌, ◌-◌, ◌<◌, ◌≤◌, inl, inr, Bool, true, false, List, [], ◌∷◌, length, get_or, take, map, Option, Some, None, IfSome, IsSomeAnd, slice_get, refl, sym, ap, subst, ◌∙◌, arith}
use Rattle.std.specs.List.{All}
use Rattle.std.specs.Option.{option_map}
use Rattle.std.proofs.lemmas.Bool.{cases_eq, cases_lt}
use Rattle.std.proofs.lemmas.Slice.Eq.{bytes_eq-Decides}
use Rattle.std.specs.Str.{bytes_eq}
use Rattle.std.proofs.lemmas.List.{get_or-take, get_or_default, get_or-map, length-take-le, length-map}
use Rattle.std.proofs.lemmas.List.Elements.{All-map}
use Rattle.std.proofs.lemmas.List.Sorted.{IsNonDecreasingBy-from_all_adjacent}
use Rattle.std.proofs.lemmas.Option.{slice_get-map, slice_get-get_or, get_or_from_slice_get}
use Rattle.symk_task.specs.declared.parts.Mode.{Mode}
use Rattle.symk_task.specs.declared.parts.Mode.TheVariants.{TopK, Loopless, Unordered}
use Rattle.symk_task.specs.declared.parts.TaskParts.{TaskParts}
use Rattle.symk_task.specs.Fits.{Fits}
use Rattle.symk_task.specs.Plans.{IsPlan, IsPlanOf, AllDifferent, Same, cost_of}
use Rattle.symk_task.proofs.Running.{has_trace}
use Rattle.task_run.specs.Verdicts.{AreOperators, IsTooLarge}
use Rattle.plan_out.specs.declared.blocks.ReadBlock.{ReadBlock}
use Rattle.plan_out.specs.declared.check.Why.{Why}
use Rattle.plan_out.specs.declared.check.Why.TheVariants.{NoSuchOperator, WrongName, StopsAt, MissesGoal, WrongCost, Repeats, Cheaper, Loops}
use Rattle.plan_out.specs.declared.check.Checked.TheVariants.{Good}
use Rattle.plan_out.specs.Texts.{is_unit}
use Rattle.plan_out.specs.Fails.{name_of, IsStepNamed, AreNamed, IsMisnamed, IsCostLine, IsFirstSame, Recurs, IsFirstReturn, IsFirstReason, Says, Finds}
use Rattle.plan_out.specs.Checks.{AreFresh, WalksBack, Passes}
use Rattle.plan_out.specs.Lists.{plans_of, IsGoodList}
use Rattle.plan_out.proofs.Reasons.{IsClear, next, below_all}
use Rattle.plan_out.proofs.Deciding.{Either, one_of_three}

-- No reason is true of a block that does not fail.

clear_to : (task : TaskParts) (mode : Mode) (before : List ReadBlock) (b : ReadBlock)
    → ((why : Why) → ¬ IsFirstReason task mode before b why) → (n : ℕ) → IsClear task mode before b n
clear_to task mode before b none zero = λ other lt says. omega (arith, lt)
clear_to task mode before b none (suc n) = next task mode before b n (suc n) (omega arith)
    (clear_to task mode before b none n) (λ other e says. none other
    (says, subst (IsClear task mode before b) (sym e) (clear_to task mode before b none n)))

nothing_said : (task : TaskParts) (mode : Mode) (before : List ReadBlock) (b : ReadBlock)
    → ((why : Why) → ¬ IsFirstReason task mode before b why) → (why : Why) → ¬ Says task mode before b why
nothing_said task mode before b none why says = clear_to task mode before b none 8 why (below_all why) says

-- what holds at a place if it does at all before it, holds at each
each_place : (P : ℕ → Type 0) (n : ℕ) → ((i : ℕ) → i < n → ((k : ℕ) → k < i → P k) → P i) → (k : ℕ) → k < n → P k
each_place P n step k lt = up (suc k) (omega arith) k (omega arith)
  where
    up : (m : ℕ) → m ≤ n → (k : ℕ) → k < m → P k
    up zero le k lt = absurd (omega arith)
    up (suc m) le k lt = elim (cases_eq k m) [
      | inl e ↦ subst P (sym e) (step m (omega arith) (up m (omega arith)))
      | inr ne ↦ (let ne2 : k ≡ m → ⊥ = ne in up m (omega arith) k (omega (arith, ne2)))
    ]

same_list : (x y : List ℕ) → Either (x ≡ y)
same_list x y = by (bytes_eq x y) refl
  where
    by : (t : Bool) → bytes_eq x y ≡ t → Either (x ≡ y)
    by true e = inl ((bytes_eq-Decides x y).0 e)
    by false e = inr (λ h. let t : bytes_eq x y ≡ true = (bytes_eq-Decides x y).1 h in cc)

same_bool : (a b : Bool) → Either (a ≡ b)
same_bool true true = inl refl
same_bool false false = inl refl
same_bool true false = inr (λ e. cc)
same_bool false true = inr (λ e. cc)

one_less : (i : ℕ) → (i + 1) - 1 ≡ i
one_less i = omega arith

module _ (task : TaskParts) (mode : Mode) (before : List ReadBlock) (b : ReadBlock) (fits : Fits task)
    (none : (why : Why) → ¬ Says task mode before b why) where
  operators : AreOperators task b.ops
  operators i d lt = subst (λ (z : ℕ). z < length task.operators) (get_or_default b.ops i 0 d lt)
      (each_place (λ k. get_or b.ops k 0 < length task.operators) (length b.ops) at i lt)
    where
      at : (i : ℕ) → i < length b.ops → ((k : ℕ) → k < i → get_or b.ops k 0 < length task.operators) → get_or b.ops i 0 < length task.operators
      at i lt low = elim (cases_lt (get_or b.ops i 0) (length task.operators)) [
        | inl h ↦ h
        | inr h ↦ absurd (none (NoSuchOperator (i + 1)) (
          omega arith,
          subst
              (λ (z : ℕ). IsTooLarge (length task.operators) b.ops z) (sym (one_less i))
              (record { within = lt; here = h; before = low }),
        ))
      ]

  names : AreNamed task b
  names = each_place (IsStepNamed task.operators b.ops b.names) (length b.ops) at
    where
      at : (i : ℕ) → i < length b.ops → ((k : ℕ) → k < i → IsStepNamed task.operators b.ops b.names k) → IsStepNamed task.operators b.ops b.names i
      at i lt named = elim (same_list (get_or b.names i []) (name_of task.operators (get_or b.ops i 0))) [
        | inl h ↦ h
        | inr h ↦ absurd (none (WrongName (i + 1)) (
          omega arith,
          subst
              (λ (z : ℕ). IsMisnamed task.operators b.ops b.names z) (sym (one_less i))
              (record { within = lt; here = h; before = named }),
        ))
      ]

  plan : IsPlan task b.ops
  plan = elim (one_of_three task b.ops fits operators) [
    | inl h ↦ h
    | inr other ↦ elim other [
      | inl h ↦ absurd (none (StopsAt (h.0 + 1)) (omega arith, subst (λ (z : ℕ). Rattle.task_run.specs.Verdicts.Stops task b.ops z) (sym (one_less h.0)) h.1))
      | inr h ↦ absurd (none MissesGoal h)
    ]
  ]

  cost_line : IsCostLine task b (cost_of task b.ops)
  cost_line = by (cases_eq b.cost (cost_of task b.ops)) (same_bool b.unit (is_unit task))
    where
      by : Either (b.cost ≡ cost_of task b.ops) → Either (b.unit ≡ is_unit task) → IsCostLine task b (cost_of task b.ops)
      by (inl e) (inl f) = (e, f)
      by (inr n) t = absurd (none (WrongCost (cost_of task b.ops)) (refl, λ h. n h.0))
      by (inl e) (inr n) = absurd (none (WrongCost (cost_of task b.ops)) (refl, λ h. n h.1))

  once : All (λ earlier. ¬ Same mode earlier.ops b.ops) before
  once i d lt = each_place (λ k. (d : ReadBlock) → ¬ Same mode (get_or before k d).ops b.ops) (length before) at i lt d
    where
      at : (i : ℕ) → i < length before → ((k : ℕ) → k < i → (d : ReadBlock) → ¬ Same mode (get_or before k d).ops
          b.ops) → (d : ReadBlock) → ¬ Same mode (get_or before i d).ops b.ops
      at i lt earlier d same = none (Repeats (i + 1)) (
        omega arith,
        subst (λ (z : ℕ). IsFirstSame mode before b.ops z) (sym (one_less i)) (record {
          here = subst (λ (o : Option ReadBlock). IsSomeAnd o (λ x. Same mode x.ops b.ops)) (sym (slice_get-get_or before i d lt)) same;
          before = λ k e low. (let short : k < i = omega (arith, length-take-le i before (omega arith)) in subst
              (λ (x : ReadBlock). ¬ Same mode x.ops b.ops)
              (sym (get_or-take i before k e short)) (earlier k short e));
        }),
      )

  fresh_from : (s : List ℕ) (passed : List (List ℕ)) → ((i : ℕ) → ¬ IsFirstReturn passed i) → AreFresh passed
  fresh_from s passed never = each_place (λ k. ¬ Recurs passed k) (length passed)
      (λ i lt before there. never i (record { within = lt; here = there; before = before }))

  back : WalksBack task mode b.ops None
  back = by mode refl
    where
      by : (m : Mode) → mode ≡ m → WalksBack task m b.ops None
      by TopK e = refl
      by Unordered e = refl
      by Loopless e =
          let s = plan.0 in
          let trace = has_trace task b.ops s plan.1 plan.3 in
          (s, trace.0, plan.2, trace.1, fresh_from s trace.0 (λ i first. none (Loops i) (e, (s, trace.0, plan.2, trace.1, first))))

  pub passes : Passes task mode before b
  passes = record { operators = operators; names = names; plan = plan; cost = cost_line; once = once; rising = none Cheaper; back = back }

-- A trace in which no state recurs has different states.

different_tail : (x : List ℕ) (passed : List (List ℕ)) → AreFresh (x ∷ passed) → AreFresh passed
different_tail x passed fresh k lt h = fresh (suc k) (omega arith) (suc h.0, (let lt = h.1 in omega arith), h.2)

all_different : (passed : List (List ℕ)) → AreFresh passed → AllDifferent passed
all_different [] fresh = tt
all_different (x ∷ passed) fresh = (
  (λ i d lt e. fresh (suc i) (omega arith) (0, omega arith, e ∙ get_or_default passed i d [] lt)),
  all_different passed (different_tail x passed fresh),
)

plan_of_mode : (task : TaskParts) (mode : Mode) (p : List ℕ) → IsPlan task p → WalksBack task mode p None → IsPlanOf task mode p
plan_of_mode task TopK p is walked = is
plan_of_mode task Unordered p is walked = is
plan_of_mode task Loopless p is (s, passed, initial, trace, fresh) = (is, s, passed, initial, trace, all_different passed fresh)

-- The list.

at_each : (task : TaskParts) (mode : Mode) (blocks : List ReadBlock) (n : ℕ) → Fits task
    → Finds task mode blocks (Good n) → (i : ℕ) (d : ReadBlock) → i < length blocks
    → Passes task mode (take i blocks) (get_or blocks i d)
at_each task mode blocks n fits found i d lt =
    let b = get_or blocks i d in
    passes task mode (take i blocks) b fits (nothing_said task mode (take i blocks) b
    (λ why first. found.1 i why
    (subst (λ (o : Option ReadBlock). IsSomeAnd o (λ x. IsFirstReason task mode (take i blocks) x why))
    (sym (slice_get-get_or blocks i d lt)) first)))

some_block : (blocks : List ReadBlock) → 1 ≤ length blocks → ReadBlock
some_block [] h = absurd (omega arith)
some_block (b ∷ blocks) h = b

not_lower : (a b : ℕ) → ¬ (a < b) → b ≤ a
not_lower a b n = elim (cases_lt a b) [ inl h ↦ absurd (n h) | inr h ↦ h ]

module _ (task : TaskParts) (mode : Mode) (blocks : List ReadBlock)
    (passed : (i : ℕ) (d : ReadBlock) → i < length blocks → Passes task mode (take i blocks)
    (get_or blocks i d)) where
  two_differ : (i j : ℕ) → i < j → j < length blocks → (o u : Option ReadBlock) → slice_get blocks i ≡ o
      → slice_get blocks j ≡ u → IfSome (option_map (λ b. b.ops) o)
      (λ p. IfSome (option_map (λ b. b.ops) u) (λ q. ¬ Same mode p q))
  two_differ i j low lt None u e f = tt
  two_differ i j low lt (Some x) None e f = tt
  two_differ i j low lt (Some x) (Some y) e f =
      let within : i < length (take j blocks) = omega (arith, length-take-le j blocks (omega arith)) in
      let none = (passed j y lt).once i x within in
      let first : get_or (take j blocks) i x ≡ x = get_or-take j blocks i x low ∙ get_or_from_slice_get blocks i x x e in
      let second : get_or blocks j y ≡ y = get_or_from_slice_get blocks j y y f in
      subst (λ (z : ReadBlock). ¬ Same mode z.ops y.ops) first (subst (λ (z : ReadBlock). ¬ Same mode (get_or (take j blocks) i x).ops z.ops) second none)

  -- the block before costs no more
  rises : (k : ℕ) (d : ReadBlock) → k + 1 < length blocks → cost_of task (get_or blocks k d).ops ≤ cost_of task (get_or blocks (k + 1) d).ops
  rises k d lt =
      let b = get_or blocks (k + 1) d in
      let last = get_or blocks k d in
      let front = take (k + 1) blocks in
      let size : length front ≡ k + 1 = length-take-le (k + 1) blocks (omega arith) in
      let place : length front - 1 ≡ k = omega arith in
      let here : slice_get front (length front - 1) ≡ Some last = ap (slice_get front) place
      ∙ slice_get-get_or front k d (omega arith) ∙ ap (λ (z : ReadBlock). Some z)
      (get_or-take (k + 1) blocks k d (omega arith)) in
      let low : last.cost ≤ b.cost = not_lower b.cost last.cost
      (λ cheap. (passed (k + 1) d lt).rising
      (subst (λ (o : Option ReadBlock). IsSomeAnd o (λ x. b.cost < x.cost)) (sym here) cheap)) in
      let one : b.cost ≡ cost_of task b.ops = (passed (k + 1) d lt).cost.0 in
      let other : last.cost ≡ cost_of task last.ops = (passed k d (omega arith)).cost.0 in
      omega arith

  size : length (map (cost_of task) (plans_of blocks)) ≡ length blocks
  size = length-map (plans_of blocks) (cost_of task) ∙ length-map blocks (λ (b : ReadBlock). b.ops)

  cost_at_place : (k e : ℕ) (d : ReadBlock) → k < length blocks → get_or (map (cost_of task) (plans_of blocks)) k e ≡ cost_of task (get_or blocks k d).ops
  cost_at_place k e d lt =
      let within : k < length (plans_of blocks) = omega (arith, length-map blocks (λ (b : ReadBlock). b.ops)) in
      get_or-map (cost_of task) (plans_of blocks) k d.ops e within ∙ ap (cost_of task) (get_or-map (λ (b : ReadBlock). b.ops) blocks k d d.ops lt)

  never_fall : (k e : ℕ) → k + 1 < length (map (cost_of task) (plans_of blocks))
      → get_or (map (cost_of task) (plans_of blocks)) k e ≤ get_or (map (cost_of task) (plans_of blocks)) (k + 1) e
  never_fall k e lt =
      let within : k + 1 < length blocks = omega (arith, size) in
      let d = some_block blocks (omega arith) in
      let one = cost_at_place k e d (omega arith) in
      let two = cost_at_place (k + 1) e d within in
      omega (arith, one, two, rises k d within)

  pub good_list : IsGoodList task mode blocks
  good_list = record {
    each = All-map (IsPlanOf task mode) (λ (b : ReadBlock). b.ops) blocks
        (λ i d lt. plan_of_mode task mode (get_or blocks i d).ops (passed i d lt).plan (passed i d lt).back);
    different = λ i j low lt. rw (
      slice_get-map (λ (b : ReadBlock). b.ops) blocks i,
      slice_get-map
          (λ (b : ReadBlock). b.ops) blocks j,
    ) (two_differ i j low lt (slice_get blocks i) (slice_get blocks j) refl
        refl);
    costs = IsNonDecreasingBy-from_all_adjacent (λ n. n) (map (cost_of task) (plans_of blocks)) never_fall;
    names = λ i d lt. (passed i d lt).names;
    cost_lines = λ i d lt. (passed i d lt).cost;
  }

pub good : (task : TaskParts) (mode : Mode) (blocks : List ReadBlock) (n : ℕ) → Fits task → Finds task mode blocks (Good n) → IsGoodList task mode blocks
good task mode blocks n fits found = good_list task mode blocks (at_each task mode blocks n fits found)
