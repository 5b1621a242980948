-- The task of the switches fits.
use Rattle.std.proofs.Common.{◌≡◌, ℕ, zero, suc, ◌+◌, ◌*◌, ◌^◌, ◌<◌, ◌≤◌, ◌%◌, inl, List, [], ◌∷◌, ◌++◌, length, get_or, replicate, Option, Some, None, refl, sym, ap, ◌∙◌, subst, arith, lit<, lit≤}
use Rattle.std.specs.Prelude.{true, All, Contains, slice_get, slice_index, IfSome, IsSomeAnd, sum_by, codes, decimal}
use Rattle.std.specs.List.{AllByRecursion}
use Rattle.std.proofs.lemmas.Option.{slice_get-get_or}
use Rattle.std.proofs.lemmas.List.{get_or_append_left, get_or_push, length_push, length-replicate}
use Rattle.std.proofs.lemmas.List.Elements.{All-nil, All-cons, All-push, All-append, All-head, All-tail, All-from_recursion}
use Rattle.std.proofs.lemmas.List.Sums.{sum_by-append}
use Rattle.std.proofs.lemmas.Fmt.{decimal_by_steps}
use Rattle.symk_task.specs.declared.parts.Fact.{Fact}
use Rattle.symk_task.specs.declared.parts.Variable.{Variable}
use Rattle.symk_task.specs.declared.parts.Effect.{Effect}
use Rattle.symk_task.specs.declared.parts.Operator.{Operator}
use Rattle.symk_task.specs.declared.parts.Rule.{Rule}
use Rattle.symk_task.specs.Variables.{range, width, doublings, IsBase, HasLayer}
use Rattle.symk_task.specs.Fits.{IsName, InRange, AreFacts, bits_of, FitsRange, FitsVariable, FitsEffect, FitsOperator, FitsRule, MayStand, Fits}
use Rattle.symk_task.proofs.Names.{NotEnd, goes_on, by_test, literal}
use Rattle.task_gen.specs.Switches.{up_to, switch_fact, switched_on, switch, all_on, variables, effect, flip, rule, switches}
use Rattle.task_gen.proofs.Counting.{length_up_to, get_up_to, All_up_to, sum_up_to}

name_of : (name : List ℕ) → All NotEnd name → IsName name
name_of name each = record { line = (λ (k, lt, e). each k 10 lt e) }

digits_go_on : (n : ℕ) → n < 2 ^ 64 → All NotEnd (decimal n)
digits_go_on n fits = decimal_by_steps (λ _ ds. All NotEnd ds)
    (λ d h. All-cons NotEnd (48 + d) [] (λ e. absurd (omega arith)) (All-nil NotEnd))
    (λ m ds h each. All-push NotEnd ds (48 + m % 10) each (λ e. absurd (omega arith)))
    n fits

numbered : (front : List ℕ) (i : ℕ) → goes_on front ≡ true → i < 64 → IsName (front ++ decimal i)
numbered front i h lt = name_of _ (All-append NotEnd front (decimal i) (by_test front h) (digits_go_on i (omega arith)))

two_values : FitsRange None 2
two_values = record { some = lit≤ tt; most = lit≤ tt; derived = tt; layer_most = tt }

fits_switch : (i : ℕ) → i < 64 → FitsVariable (switch i)
unfolding goes_on
fits_switch i lt = record {
  name = numbered (codes "s") i refl lt;
  values = All-cons IsName (codes "off") (codes "on" ∷ []) (literal (codes "off") refl)
      (All-cons IsName (codes "on") [] (literal (codes "on") refl) (All-nil IsName));
  range = two_values;
}

fits_all_on : FitsVariable all_on
unfolding goes_on
fits_all_on = record {
  name = literal (codes "all") refl;
  values = All-cons IsName (codes "no") (codes "yes" ∷ []) (literal (codes "no") refl)
      (All-cons IsName (codes "yes") [] (literal (codes "yes") refl) (All-nil IsName));
  range = record { some = lit≤ tt; most = lit≤ tt; derived = refl; layer_most = lit< tt };
}

length_variables : (n : ℕ) → length (variables n) ≡ n + 1
length_variables n = length_push (up_to switch n) all_on ∙ ap (λ k. k + 1) (length_up_to switch n)

-- the variable at the place of a switch
at_switch : (n i : ℕ) → i < n → slice_get (variables n) i ≡ Some (switch i)
at_switch n i lt =
    let within : i < length (up_to switch n) = subst (λ (k : ℕ). i < k) (sym (length_up_to switch n)) lt in
    let there : i < length (variables n) = subst (λ (k : ℕ). i < k) (sym (length_variables n)) (omega arith) in
    slice_get-get_or (variables n) i (switch i) there
    ∙ ap Some (get_or_append_left (up_to switch n) (all_on ∷ []) (switch i) i within ∙ get_up_to switch n i (switch i) lt)

-- the last variable
at_last : (n : ℕ) → slice_get (variables n) n ≡ Some all_on
at_last n =
    let there : n < length (variables n) = subst (λ (k : ℕ). n < k) (sym (length_variables n)) (omega arith) in
    slice_get-get_or (variables n) n all_on there ∙ ap Some (get_or_push (up_to switch n) all_on all_on n (length_up_to switch n))

each_at : {X : Type 0} (P : X → Type 0) (xs : List X) (i : ℕ) → All P xs → IfSome (slice_get xs i) P
each_at P [] i each = tt
each_at P (x ∷ xs) zero each = All-head P x xs each
each_at P (x ∷ xs) (suc i) each = each_at P xs i (All-tail P x xs each)

get_zero : (n i : ℕ) → get_or {A = ℕ} (replicate n 0) i 0 ≡ 0
get_zero zero i = refl
get_zero (suc n) zero = refl
get_zero (suc n) (suc i) = get_zero n i

starts_in_range : (n var : ℕ) → IfSome (slice_get (variables n) var) (λ v. slice_index (replicate (n + 1) 0) var < range v)
starts_in_range n var =
    subst (λ (x : ℕ). IfSome (slice_get (variables n) var) (λ v. x < range v)) (sym (get_zero (n + 1) var))
    (each_at (λ v. 0 < range v) (variables n) var
    (All-push (λ v. 0 < range v) (up_to switch n) all_on (All_up_to (λ v. 0 < range v) switch n (λ i lt. lit< tt)) (lit< tt)))

bits_of_switch : (i : ℕ) → bits_of (switch i) ≤ 1
unfolding width doublings
bits_of_switch i = lit≤ tt

few_bits : (n : ℕ) → n ≤ 64 → sum_by bits_of (variables n) ≤ 65536
few_bits n most =
    let switches_bits = sum_up_to bits_of switch n 1 bits_of_switch in
    rw (sum_by-append bits_of (up_to switch n) (all_on ∷ [])) (omega (arith, switches_bits))

switch_in_range : (n i val : ℕ) → i < n → val < 2 → InRange (variables n) (switch_fact i val)
switch_in_range n i val lt small = subst (λ (o : Option Variable). IsSomeAnd o (λ v. val < range v)) (sym (at_switch n i lt)) small

all_in_range : (n : ℕ) → InRange (variables n) (switch_fact n 1)
all_in_range n = subst (λ (o : Option Variable). IsSomeAnd o (λ v. 1 < range v)) (sym (at_last n)) (lit< tt)

one_fact : (n : ℕ) (f : Fact) → InRange (variables n) f → AreFacts (variables n) (f ∷ [])
one_fact n f h = (lit≤ tt, All-cons (InRange (variables n)) f [] h (All-nil (InRange (variables n))))

fits_effect : (n i old new : ℕ) → i < n → old < 2 → new < 2 → FitsEffect (variables n) (effect i old new)
fits_effect n i old new lt o w = record {
  conds = one_fact n (switch_fact i old) (switch_in_range n i old lt o);
  on = subst (λ (v : Option Variable). IsSomeAnd v (λ x. (x.layer ≡ None) × (new < range x))) (sym (at_switch n i lt)) (refl, w);
  pre = tt;
}

fits_flip : (n i : ℕ) → n ≤ 64 → i < n → FitsOperator (variables n) (flip i)
unfolding goes_on
fits_flip n i most lt =
    let P = FitsEffect (variables n) in
    record {
      name = numbered (codes "flip ") i refl (omega arith);
      prevail = (lit≤ tt, All-nil (InRange (variables n)));
      effects = lit≤ tt;
      each = All-cons P (effect i 0 1) (effect i 1 0 ∷ []) (fits_effect n i 0 1 lt (lit< tt) (lit< tt))
          (All-cons P (effect i 1 0) [] (fits_effect n i 1 0 lt (lit< tt) (lit< tt)) (All-nil P));
    }

fits_rule : (n : ℕ) → n ≤ 64 → FitsRule (switches n) (rule n)
fits_rule n most = record {
  conds = (
    subst (λ (k : ℕ). k ≤ 65536) (sym (length_up_to switched_on n)) (omega arith),
    All_up_to (InRange (variables n))
        switched_on n (λ i lt. switch_in_range n i 1 lt (lit< tt)),
  );
  layer = 0;
  on = subst (λ (v : Option Variable). IsSomeAnd v (λ x. x.layer ≡ Some 0)) (sym (at_last n)) refl;
  new = lit< tt;
  kept = (λ _. All_up_to (MayStand (switches n) 0) switched_on n (λ i lt. inl
      (subst (λ (v : Option Variable). IsSomeAnd v (λ x. x.layer ≡ None)) (sym (at_switch n i lt)) refl)));
}

pub switches_fit : (n : ℕ) → n ≤ 64 → Fits (switches n)
switches_fit n most = record {
  metric = lit< tt;
  variables = subst (λ (k : ℕ). k ≤ 65536) (sym (length_variables n)) (omega arith);
  each_variable = All-push FitsVariable (up_to switch n) all_on (All_up_to FitsVariable switch n (λ i lt. fits_switch i (omega arith))) fits_all_on;
  bits = few_bits n most;
  mutexes = lit≤ tt;
  each_mutex = All-nil (AreFacts (variables n));
  initial = length-replicate (n + 1) 0 ∙ sym (length_variables n);
  each_value = starts_in_range n;
  goal = one_fact n (switch_fact n 1) (all_in_range n);
  operators = subst (λ (k : ℕ). k ≤ 1000000) (sym (length_up_to flip n)) (omega arith);
  each_operator = All_up_to (FitsOperator (variables n)) flip n (λ i lt. fits_flip n i most lt);
  rules = lit≤ tt;
  each_rule = All-cons (FitsRule (switches n)) (rule n) [] (fits_rule n most) (All-nil (FitsRule (switches n)));
}
