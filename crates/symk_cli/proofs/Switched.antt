-- The task of the switches has a plan of each length that is the number of switches and an even number of flips of the first.
use Rattle.std.proofs.Common.{◌≡◌, ◌≢◌, ℕ, zero, suc, ◌+◌, ◌-◌, ◌*◌, ◌<◌, ◌≤◌, ◌⊎◌, inl, inr, List, [], ◌∷◌, ◌++◌, length, get_or, set, replicate, map, min, take, Option, Some, None, refl, sym, ap, ◌∙◌, subst, arith, add-one}
use Rattle.std.specs.Prelude.{All, slice_get, slice_index, IsSomeAnd, IfSome}
use Rattle.std.specs.Option.{option_map_or}
use Rattle.std.specs.List.{AllByRecursion, range_with_len, count_by, Any}
use Rattle.std.proofs.Math.Seq.{take-length}
use Rattle.std.proofs.lemmas.Bool.{cases_lt}
use Rattle.std.proofs.lemmas.Option.{slice_get-get_or, slice_get_past}
use Rattle.std.proofs.lemmas.List.{get_or_append_left, get_or_push, length_push, get_or_default, length-append, length-set, length-replicate, get_or-set_same, get_or-set_other}
use Rattle.std.proofs.lemmas.List.FromFn.{length-range_with_len}
use Rattle.std.proofs.lemmas.List.Elements.{All-nil, All-cons, All-head, All-tail, All-push, recursion_from_All}
use Rattle.std.proofs.lemmas.List.Sums.{sum_by-cons, count_by_more_yes, count_by_more_no}
use Rattle.indexmap.proofs.IndexTableLemmas.Probe.{pigeonhole}
use Rattle.symk_task.specs.declared.parts.Mode.TheVariants.{TopK}
use Rattle.symk_task.specs.declared.parts.Variable.{Variable}
use Rattle.symk_task.specs.declared.parts.Operator.{Operator}
use Rattle.symk_task.specs.Variables.{IsBase, HasLayer, is_base, range, place, other_value}
use Rattle.symk_task.specs.Steps.{Holds, Fires, Allows, Applies, ValueAfter, After, Step, cost_at}
use Rattle.symk_task.specs.Derived.{Met, base, RaisedBelow, Raised}
use Rattle.symk_task.specs.Plans.{Runs, IsInitial, IsPlan, cost_of, AllInRange}
use Rattle.task_gen.specs.Switches.{up_to, switch_fact, switched_on, switch, all_on, variables, effect, flip, rule, switches}
use Rattle.task_gen.proofs.Counting.{length_up_to, get_up_to, All_up_to}

-- The variables and operators of the task.

length_variables : (n : ℕ) → length (variables n) ≡ n + 1
length_variables n = length_push (up_to switch n) all_on ∙ ap (λ k. k + 1) (length_up_to switch n)

get_switch : (n i : ℕ) → i < n → get_or (variables n) i (switch i) ≡ switch i
get_switch n i lt =
    let within : i < length (up_to switch n) = subst (λ (k : ℕ). i < k) (sym (length_up_to switch n)) lt in
    get_or_append_left (up_to switch n) (all_on ∷ []) (switch i) i within ∙ get_up_to switch n i (switch i) lt

at_switch : (n i : ℕ) → i < n → slice_get (variables n) i ≡ Some (switch i)
at_switch n i lt =
    let there : i < length (variables n) = subst (λ (k : ℕ). i < k) (sym (length_variables n)) (omega arith) in
    slice_get-get_or (variables n) i (switch i) there ∙ ap Some (get_switch n i lt)

at_last : (n : ℕ) → slice_get (variables n) n ≡ Some all_on
at_last n =
    let there : n < length (variables n) = subst (λ (k : ℕ). n < k) (sym (length_variables n)) (omega arith) in
    slice_get-get_or (variables n) n all_on there ∙ ap Some (get_or_push (up_to switch n) all_on all_on n (length_up_to switch n))

at_flip : (n i : ℕ) → i < n → slice_get (up_to flip n) i ≡ Some (flip i)
at_flip n i lt =
    let there : i < length (up_to flip n) = subst (λ (k : ℕ). i < k) (sym (length_up_to flip n)) lt in
    slice_get-get_or (up_to flip n) i (flip i) there ∙ ap Some (get_up_to flip n i (flip i) lt)

switch_is_base : (n i : ℕ) → i < n → IsBase (switches n) i
switch_is_base n i lt = subst (λ (o : Option Variable). IsSomeAnd o (λ v. v.layer ≡ None)) (sym (at_switch n i lt)) refl

last_has_layer : (n : ℕ) → HasLayer (switches n) n 0
last_has_layer n = subst (λ (o : Option Variable). IsSomeAnd o (λ v. v.layer ≡ Some 0)) (sym (at_last n)) refl

none_some : (layer : ℕ) → None ≡ Some layer → ⊥
none_some layer e = cc

switch_has_no_layer : (n i layer : ℕ) → i < n → ¬ HasLayer (switches n) i layer
switch_has_no_layer n i layer lt h = none_some layer (subst (λ (o : Option Variable). IsSomeAnd o (λ v. v.layer ≡ Some layer)) (at_switch n i lt) h)

base_cases : (n var : ℕ) → IsBase (switches n) var → (var < n) ⊎ (n ≤ var) → (var ≡ n) ⊎ (n < var) → var < n
base_cases n var h (inl lt) b = lt
base_cases n var h (inr ge) (inl e) =
    let at : IsBase (switches n) n = subst (λ (k : ℕ). IsBase (switches n) k) e h in
    let off : Some 0 ≡ None = subst (λ (o : Option Variable). IsSomeAnd o (λ v. v.layer ≡ None)) (at_last n) at in
    absurd (none_some 0 (sym off))
base_cases n var h (inr ge) (inr gt) =
    let past : length (variables n) ≤ var = subst (λ (k : ℕ). k ≤ var) (sym (length_variables n)) (omega arith) in
    absurd (subst (λ (o : Option Variable). IsSomeAnd o (λ v. v.layer ≡ None)) (slice_get_past (variables n) var past) h)

same_or_past : (n var : ℕ) → (var < n) ⊎ (n ≤ var) → (var < n + 1) ⊎ (n + 1 ≤ var) → (var ≡ n) ⊎ (n < var) ⊎ (var < n)
same_or_past n var (inl lt) b = inr (inr lt)
same_or_past n var (inr ge) (inl lt) = inl (omega arith)
same_or_past n var (inr ge) (inr gt) = inr (inl (omega arith))

base_is_switch : (n var : ℕ) → IsBase (switches n) var → var < n
base_is_switch n var h = elim (same_or_past n var (cases_lt var n) (cases_lt var (n + 1))) [
  | inl e ↦ base_cases n var h (cases_lt var n) (inl e)
  | inr r ↦ elim r [ inl gt ↦ base_cases n var h (cases_lt var n) (inr gt) | inr lt ↦ lt ]
]

place_of : (n i : ℕ) → i ≤ n → place (switches n) i ≡ i
place_of n zero le = refl
place_of n (suc i) le =
    let lt : i < n = omega (arith, le) in
    let there : i < length (variables n) = subst (λ (k : ℕ). i < k) (sym (length_variables n)) (omega arith) in
    let more = count_by_more_yes is_base (variables n) i (switch i) there (ap is_base (get_switch n i lt)) in
    ap (λ k. place (switches n) k) (sym (add-one i)) ∙ more ∙ ap (λ k. k + 1) (place_of n i (omega (arith, le))) ∙ add-one i

-- Steps.

-- a switch has a value
holds : (n i val : ℕ) (s : List ℕ) → i < n → get_or s i 0 ≡ val → Holds (switches n) s (switch_fact i val)
holds n i val s lt e = inl (switch_is_base n i lt, ap (λ k. get_or s k 0) (place_of n i (omega arith)) ∙ e)

held : (n i val : ℕ) (s : List ℕ) → i < n → Holds (switches n) s (switch_fact i val) → get_or s i 0 ≡ val
held n i val s lt (inl h) = ap (λ k. get_or s k 0) (sym (place_of n i (omega arith))) ∙ h.1
held n i val s lt (inr h) = absurd (switch_has_no_layer n i h.0 lt h.1)

fires : (n i old new : ℕ) (s : List ℕ) → i < n → get_or s i 0 ≡ old → Fires (switches n) s (effect i old new)
fires n i old new s lt e = All-cons (Holds (switches n) s) (switch_fact i old) [] (holds n i old s lt e) (All-nil (Holds (switches n) s))

fired : (n i old new : ℕ) (s : List ℕ) → i < n → Fires (switches n) s (effect i old new) → get_or s i 0 ≡ old
fired n i old new s lt h = held n i old s lt (All-head (Holds (switches n) s) (switch_fact i old) [] h)

applies : (n i : ℕ) (s : List ℕ) → i < n → Applies (switches n) s i
applies n i s lt =
    let P = Allows (switches n) s in
    subst (λ (o : Option Operator). IsSomeAnd o (λ op. All (Holds (switches n) s) op.prevail × All (Allows (switches n) s) op.effects)) (sym (at_flip n i lt))
    (All-nil (Holds (switches n) s), All-cons P (effect i 0 1) (effect i 1 0 ∷ []) tt (All-cons P (effect i 1 0) [] tt (All-nil P)))

-- a switch gets a value, the others keep theirs
abbrev Gets : ℕ → ℕ → ℕ → List ℕ → Type 0
Gets n i new s = (var : ℕ) → (var ≡ i) ⊎ (var ≢ i) → ValueAfter (Fires (switches n) s) (flip i).effects var (get_or s var 0) (get_or (set s i new) var 0)

gets_on : (n i : ℕ) (s : List ℕ) → i < n → length s ≡ n → get_or s i 0 ≡ 0 → Gets n i 1 s
gets_on n i s lt each off var (inl e) =
    let within : i < length s = subst (λ (k : ℕ). i < k) (sym each) lt in
    inl (
      effect i 0 1,
      record { before = []; later = effect i 1 0 ∷ []; here = refl; on = sym e; fires = fires n i 0 1 s lt off; none = ((λ _ f. clash (fired n i 1 0 s lt f) off), tt) },
      ap (λ k. get_or (set s i 1) k 0) e ∙ get_or-set_same s i 1 0 within,
    )
  where
    clash : get_or s i 0 ≡ 1 → get_or s i 0 ≡ 0 → ⊥
    clash a b = cc
gets_on n i s lt each off var (inr ne) = inr (((λ e f. ne (sym e)), ((λ e f. ne (sym e)), tt)), get_or-set_other s i var 1 0 ne)

gets_off : (n i : ℕ) (s : List ℕ) → i < n → length s ≡ n → get_or s i 0 ≡ 1 → Gets n i 0 s
gets_off n i s lt each on var (inl e) =
    let within : i < length s = subst (λ (k : ℕ). i < k) (sym each) lt in
    inl (effect i 1 0, record { before = effect i 0 1 ∷ []; later = []; here = refl; on = sym e; fires = fires n i 1 0 s lt on; none = tt }, ap (λ k. get_or (set s i 0) k 0) e ∙ get_or-set_same s i 0 0 within)
gets_off n i s lt each on var (inr ne) = inr (((λ e f. ne (sym e)), ((λ e f. ne (sym e)), tt)), get_or-set_other s i var 0 0 ne)

same_or_not : (a b : ℕ) → (a < b) ⊎ (b ≤ a) → (b < a) ⊎ (a ≤ b) → (a ≡ b) ⊎ (a ≢ b)
same_or_not a b (inl lt) c = inr (λ e. absurd (omega (arith, e, lt)))
same_or_not a b (inr ge) (inl gt) = inr (λ e. absurd (omega (arith, e, gt)))
same_or_not a b (inr ge) (inr le) = inl (omega arith)

after : (n i new : ℕ) (s : List ℕ) → i < n → Gets n i new s → After (switches n) s i (set s i new)
after n i new s lt gets = record {
  each = length-set s i new;
  values = subst (λ (o : Option Operator). IsSomeAnd o (λ op. (var : ℕ) → IsBase (switches n) var → ValueAfter (Fires (switches n) s) op.effects var (slice_index s (place (switches n) var)) (slice_index (set s i new) (place (switches n) var)))) (sym (at_flip n i lt)) changed;
}
  where
    changed : (var : ℕ) → IsBase (switches n) var → ValueAfter (Fires (switches n) s) (flip i).effects var (slice_index s (place (switches n) var)) (slice_index (set s i new) (place (switches n) var))
    changed var is =
        let below = base_is_switch n var is in
        subst (λ (k : ℕ). ValueAfter (Fires (switches n) s) (flip i).effects var (get_or s k 0) (get_or (set s i new) k 0)) (sym (place_of n var (omega (arith, below))))
        (gets var (same_or_not var i (cases_lt var i) (cases_lt i var)))

switches_on : (n i : ℕ) (s : List ℕ) → i < n → length s ≡ n → get_or s i 0 ≡ 0 → Step (switches n) s i (set s i 1)
switches_on n i s lt each off = (applies n i s lt, after n i 1 s lt (gets_on n i s lt each off))

switches_off : (n i : ℕ) (s : List ℕ) → i < n → length s ≡ n → get_or s i 0 ≡ 1 → Step (switches n) s i (set s i 0)
switches_off n i s lt each on = (applies n i s lt, after n i 0 s lt (gets_off n i s lt each on))

-- Runs.

-- The first k switches are on, the others off.
record IsOn (n k : ℕ) (s : List ℕ) : Type 0 where
  each : length s ≡ n
  on : (i : ℕ) → i < k → get_or s i 0 ≡ 1
  off : (i : ℕ) → k ≤ i → i < n → get_or s i 0 ≡ 0

one_more : (n k : ℕ) (s : List ℕ) → k < n → IsOn n k s → IsOn n (k + 1) (set s k 1)
one_more n k s lt h = record { each = length-set s k 1 ∙ h.each; on = on; off = off }
  where
    within : k < length s
    within = subst (λ (j : ℕ). k < j) (sym h.each) lt

    on : (i : ℕ) → i < k + 1 → get_or (set s k 1) i 0 ≡ 1
    on i less = elim (same_or_not i k (cases_lt i k) (cases_lt k i)) [
      | inl e ↦ ap (λ j. get_or (set s k 1) j 0) e ∙ get_or-set_same s k 1 0 within
      | inr ne ↦ get_or-set_other s k i 1 0 ne ∙ h.on i (omega (arith, less, ne))
    ]

    off : (i : ℕ) → k + 1 ≤ i → i < n → get_or (set s k 1) i 0 ≡ 0
    off i le less = get_or-set_other s k i 1 0 (λ e. absurd (omega (arith, e, le))) ∙ h.off i (omega (arith, le)) less

on_and_off : (n : ℕ) (s : List ℕ) → 0 < n → IsOn n 0 s → IsOn n 0 (set (set s 0 1) 0 0)
on_and_off n s some h = record { each = length-set (set s 0 1) 0 0 ∙ length-set s 0 1 ∙ h.each; on = λ i less. absurd (omega (arith, less)); off = off }
  where
    within : 0 < length (set s 0 1)
    within = subst (λ (j : ℕ). 0 < j) (sym (length-set s 0 1 ∙ h.each)) some

    off : (i : ℕ) → 0 ≤ i → i < n → get_or (set (set s 0 1) 0 0) i 0 ≡ 0
    off i le less = elim (same_or_not i 0 (cases_lt i 0) (cases_lt 0 i)) [
      | inl e ↦ ap (λ j. get_or (set (set s 0 1) 0 0) j 0) e ∙ get_or-set_same (set s 0 1) 0 0 0 within
      | inr ne ↦ get_or-set_other (set s 0 1) 0 i 0 0 ne ∙ get_or-set_other s 0 i 1 0 ne ∙ h.off i le less
    ]

-- the operators lead to a state where all are on
abbrev LeadsOn : ℕ → List ℕ → List ℕ → Type 0
LeadsOn n s p = (t : List ℕ) × Runs (switches n) s p t × IsOn n n t

climbs : (n d k : ℕ) (s : List ℕ) → k + d ≡ n → IsOn n k s → LeadsOn n s (range_with_len k d)
unfolding Runs
climbs n zero k s e h = (s, refl, subst (λ (j : ℕ). IsOn n j s) (omega (arith, e)) h)
climbs n (suc d) k s e h =
    let lt : k < n = omega (arith, e) in
    let rest = climbs n d (k + 1) (set s k 1) (omega (arith, e)) (one_more n k s lt h) in
    (rest.0, (set s k 1, switches_on n k s lt h.each (h.off k (omega arith) lt), rest.1), rest.2)

-- the first is flipped twice, so often
abbrev pairs : ℕ → List ℕ
pairs zero = []
pairs (suc j) = 0 ∷ 0 ∷ pairs j

abbrev plan_of : ℕ → ℕ → List ℕ
plan_of n j = pairs j ++ range_with_len 0 n

leads_on : (n j : ℕ) (s : List ℕ) → 0 < n → IsOn n 0 s → LeadsOn n s (plan_of n j)
unfolding Runs
leads_on n zero s some h = climbs n n 0 s (omega arith) h
leads_on n (suc j) s some h =
    let rest = leads_on n j (set (set s 0 1) 0 0) some (on_and_off n s some h) in
    let within : 0 < length s = subst (λ (i : ℕ). 0 < i) (sym h.each) some in
    let first = switches_on n 0 s some h.each (h.off 0 (omega arith) some) in
    let second = switches_off n 0 (set s 0 1) some (length-set s 0 1 ∙ h.each) (get_or-set_same s 0 1 0 within) in
    (rest.0, (set s 0 1, first, (set (set s 0 1) 0 0, second, rest.1)), rest.2)

-- Plans.

starts_off : (n var : ℕ) → get_or {A = ℕ} (replicate n 0) var 0 ≡ 0
starts_off zero var = refl
starts_off (suc n) zero = refl
starts_off (suc n) (suc var) = starts_off n var

no_switch_is_on : (n : ℕ) → IsOn n 0 (replicate n 0)
no_switch_is_on n = record { each = length-replicate n 0; on = λ i less. absurd (omega (arith, less)); off = λ i le less. starts_off n i }

other_is_one : (n : ℕ) → other_value (switches n) n ≡ 1
other_is_one n = ap (λ k. 1 - k) (starts_off (n + 1) n)

all_raised : (n : ℕ) (t : List ℕ) → IsOn n n t → Raised (switches n) t n
unfolding RaisedBelow
all_raised n t h = (0, last_has_layer n, inl (rule n, [], refl, (((0, lit, refl), sym (other_is_one n)), last_has_layer n, conds, tt)))
  where
    lit : 0 < 1
    lit = omega arith

    conds : AllByRecursion (Met (switches n) t (RaisedBelow 0 (switches n) t) 0 []) (up_to switched_on n)
    conds = recursion_from_All (Met (switches n) t (RaisedBelow 0 (switches n) t) 0 []) (up_to switched_on n)
        (All_up_to (Met (switches n) t (RaisedBelow 0 (switches n) t) 0 []) switched_on n
        (λ i lt. base (switch_is_base n i lt) (ap (λ k. get_or t k 0) (place_of n i (omega (arith, lt))) ∙ h.on i lt)))

reaches_goal : (n : ℕ) (t : List ℕ) → IsOn n n t → All (Holds (switches n) t) (switches n).goal
reaches_goal n t h = All-cons (Holds (switches n) t) (switch_fact n 1) []
    (inr (0, last_has_layer n, ((λ _. all_raised n t h), (λ _. sym (other_is_one n)))))
    (All-nil (Holds (switches n) t))

cost_of_each : (operators : List Operator) (a : ℕ) → All (λ operator. operator.cost ≡ 1) operators → option_map_or (λ operator. operator.cost) (slice_get operators a) 0 ≤ 1
cost_of_each [] a each = omega arith
cost_of_each (x ∷ xs) zero each = let one = All-head (λ operator. operator.cost ≡ 1) x xs each in omega (arith, one)
cost_of_each (x ∷ xs) (suc a) each = cost_of_each xs a (All-tail (λ operator. operator.cost ≡ 1) x xs each)

one_or_none : (n a : ℕ) → cost_at (switches n) a ≤ 1
one_or_none n a = cost_of_each (up_to flip n) a (All_up_to (λ operator. operator.cost ≡ 1) flip n (λ i lt. refl))

cost_within : (n : ℕ) (p : List ℕ) → cost_of (switches n) p ≤ length p
cost_within n [] = omega arith
cost_within n (a ∷ p) =
    let one = one_or_none n a in
    let rest = cost_within n p in
    let step : cost_of (switches n) (a ∷ p) ≡ cost_at (switches n) a + cost_of (switches n) p = sum_by-cons (λ x. x) (cost_at (switches n) a) (map (cost_at (switches n)) p) in
    omega (arith, one, rest, step)

length_pairs : (j : ℕ) → length (pairs j) ≡ 2 * j
length_pairs zero = refl
length_pairs (suc j) = let rest = length_pairs j in omega (arith, rest)

length_plan : (n j : ℕ) → length (plan_of n j) ≡ 2 * j + n
length_plan n j =
    let front = length_pairs j in
    let back = length-range_with_len 0 n in
    length-append (pairs j) (range_with_len 0 n) ∙ omega (arith, front, back)

-- the initial state
base_count : (n : ℕ) → count_by is_base (variables n) ≡ n
base_count n =
    let there : n < length (variables n) = subst (λ (k : ℕ). n < k) (sym (length_variables n)) (omega arith) in
    let last = count_by_more_no is_base (variables n) n all_on there (ap is_base (get_or_push (up_to switch n) all_on all_on n (length_up_to switch n))) in
    let whole : take (n + 1) (variables n) ≡ variables n = ap (λ k. take k (variables n)) (sym (length_variables n)) ∙ take-length (variables n) in
    sym (ap (λ vs. count_by is_base vs) whole) ∙ last ∙ place_of n n (omega arith)

each_at : {X : Type 0} (P : X → Type 0) (xs : List X) (i : ℕ) → All P xs → IfSome (slice_get xs i) P
each_at P [] i each = tt
each_at P (x ∷ xs) zero each = All-head P x xs each
each_at P (x ∷ xs) (suc i) each = each_at P xs i (All-tail P x xs each)

abbrev FromOff : Variable → Type 0
FromOff v = v.layer ≡ None → 0 < range v

starts : (n : ℕ) → IsInitial (switches n) (replicate n 0)
starts n = record {
  state = record { each = length-replicate n 0 ∙ sym (base_count n); in_range = in_range };
  values = λ var is. starts_off n (place (switches n) var) ∙ sym (starts_off (n + 1) var);
}
  where
    some : 0 < 2
    some = omega arith

    in_range : (var : ℕ) → IfSome (slice_get (variables n) var) (λ v. v.layer ≡ None → slice_index (replicate n 0) (place (switches n) var) < range v)
    in_range var = subst (λ (x : ℕ). IfSome (slice_get (variables n) var) (λ v. v.layer ≡ None → x < range v)) (sym (starts_off n (place (switches n) var)))
        (each_at FromOff (variables n) var (All-push FromOff (up_to switch n) all_on (All_up_to FromOff switch n (λ i lt e. some)) (λ e. some)))

plan_is_plan : (n j : ℕ) → 0 < n → IsPlan (switches n) (plan_of n j)
plan_is_plan n j some =
    let led = leads_on n j (replicate n 0) some (no_switch_is_on n) in
    (replicate n 0, led.0, starts n, led.1, reaches_goal n led.0 led.2)

-- Lists of plans.

module _ (n : ℕ) (some : 0 < n) (most : n ≤ 64) (plans : List (List ℕ)) (all : AllInRange (switches n) TopK plans) where
  -- one of 20 plans
  abbrev nth : ℕ → List ℕ
  nth j = plan_of n (min j 19)

  nth_is_listed : (j : ℕ) → Any (λ q. nth j ≡ q) plans
  nth_is_listed j =
      let cost = cost_within n (nth j) in
      let steps = length_plan n (min j 19) in
      let few : min j 19 ≤ 19 = omega arith in
      all (nth j) (plan_is_plan n (min j 19) some) (omega (arith, cost, steps, few, most))

  different : (i j : ℕ) → i < 20 → j < 20 → (nth_is_listed i).0 ≡ (nth_is_listed j).0 → i ≡ j
  different i j li lj e =
      let a = nth_is_listed i in
      let b = nth_is_listed j in
      let same : nth i ≡ nth j = a.4 ∙ sym a.3 ∙ get_or_default plans a.0 a.1 b.1 a.2 ∙ ap (λ k. get_or plans k b.1) e ∙ b.3 ∙ sym b.4 in
      let lengths : 2 * min i 19 + n ≡ 2 * min j 19 + n = sym (length_plan n (min i 19)) ∙ ap length same ∙ length_plan n (min j 19) in
      omega (arith, li, lj, lengths)

  twenty_listed : 20 ≤ length plans
  twenty_listed = pigeonhole 20 (length plans) (λ j. (nth_is_listed j).0) (λ j lt. (nth_is_listed j).2) different

-- fewer than 20 plans are never all whose cost 64 bits hold
pub switches_have_more : (n : ℕ) → 0 < n → n ≤ 64 → (plans : List (List ℕ)) → length plans < 20 → ¬ AllInRange (switches n) TopK plans
switches_have_more n some most plans few all = let many = twenty_listed n some most plans all in absurd (omega (arith, many, few))
