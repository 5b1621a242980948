-- The tasks fit.
use Rattle.std.proofs.Common.{◌≡◌, ℕ, zero, suc, ◌<◌, ◌≤◌, inl, List, [], ◌∷◌, length, None, Some, refl, lit<, lit≤}
use Rattle.std.specs.Prelude.{slice_get, slice_index, IfSome, sum_by, codes, true}
use Rattle.std.specs.List.{AllByRecursion}
use Rattle.std.proofs.lemmas.List.Elements.{All-nil, All-from_recursion}
use Rattle.symk_task.specs.declared.parts.Fact.{Fact}
use Rattle.symk_task.specs.declared.parts.Variable.{Variable}
use Rattle.symk_task.specs.declared.parts.Operator.{Operator}
use Rattle.symk_task.specs.Variables.{range, width, doublings}
use Rattle.symk_task.specs.Fits.{IsName, InRange, AreFacts, bits_of, FitsVariable, FitsEffect, FitsOperator, FitsRule, MayStand, Fits}
use Rattle.small_tasks.specs.Tasks.{base, fact, change, idle, plain, lamp, either, any_of_three, a_or_b, done_at, swap, made, two_effects, one_switch, switch_and_back, two_switches, axioms, goal_at_start, no_operator, no_plan, zero_costs, conditional_effects, later_effect_undoes, later_effect_reaches, past_64_bits, near_and_far, same_name_twice}
use Rattle.symk_task.proofs.Names.{goes_on, literal}

facts : (variables : List Variable) (fs : List Fact) → length fs ≤ 65536 → AllByRecursion (InRange variables) fs → AreFacts variables fs
facts variables fs few each = (few, All-from_recursion (InRange variables) fs each)

no_facts : (variables : List Variable) → AreFacts variables []
no_facts variables = facts variables [] (lit≤ tt) tt

pair_fits : (name first second : List ℕ) → goes_on name ≡ true → goes_on first ≡ true → goes_on second ≡ true → FitsVariable (base name (first ∷ second ∷ []))
pair_fits name first second n f s = record {
  name = literal name n;
  values = All-from_recursion IsName (first ∷ second ∷ []) (literal first f, (literal second s, tt));
  range = record { some = lit≤ tt; most = lit≤ tt; derived = tt; layer_most = tt };
}

triple_fits : (name first second third : List ℕ) → goes_on name ≡ true → goes_on first ≡ true → goes_on second ≡ true → goes_on third ≡ true → FitsVariable (base name (first ∷ second ∷ third ∷ []))
triple_fits name first second third n f s t = record {
  name = literal name n;
  values = All-from_recursion IsName (first ∷ second ∷ third ∷ []) (literal first f, (literal second s, (literal third t, tt)));
  range = record { some = lit≤ tt; most = lit≤ tt; derived = tt; layer_most = tt };
}

change_fits : (variables : List Variable) (name : List ℕ) (var from to cost : ℕ) → goes_on name ≡ true →
    FitsEffect variables (record { conds = []; var = var; pre = Some from; post = to }) → FitsOperator variables (change name var from to cost)
change_fits variables name var from to cost n fits = record {
  name = literal name n;
  prevail = no_facts variables;
  effects = lit≤ tt;
  each = All-from_recursion (FitsEffect variables) (record { conds = []; var = var; pre = Some from; post = to } ∷ []) (fits, tt);
}

one_value : (v : Variable) (x : ℕ) → x < range v → (var : ℕ) → IfSome (slice_get (v ∷ []) var) (λ v. slice_index (x ∷ []) var < range v)
one_value v x h zero = h
one_value v x h (suc var) = tt

two_values : (v w : Variable) (x y : ℕ) → x < range v → y < range w → (var : ℕ) → IfSome (slice_get (v ∷ w ∷ []) var) (λ v. slice_index (x ∷ y ∷ []) var < range v)
two_values v w x y h k zero = h
two_values v w x y h k (suc zero) = k
two_values v w x y h k (suc (suc var)) = tt

-- with one variable that is 0 at first
one_fits : (metric : ℕ) (v : Variable) (goal : List Fact) (operators : List Operator) → metric < 2 → FitsVariable v → sum_by bits_of (v ∷ []) ≤ 65536 → 0 < range v →
    AreFacts (v ∷ []) goal → length operators ≤ 1000000 → AllByRecursion (FitsOperator (v ∷ [])) operators → Fits (plain metric (v ∷ []) (0 ∷ []) goal operators)
one_fits metric v goal operators m fits bits some goal_fits few each = record {
  metric = m;
  variables = lit≤ tt;
  each_variable = All-from_recursion FitsVariable (v ∷ []) (fits, tt);
  bits = bits;
  mutexes = lit≤ tt;
  each_mutex = All-nil (AreFacts (v ∷ []));
  initial = refl;
  each_value = one_value v 0 some;
  goal = goal_fits;
  operators = few;
  each_operator = All-from_recursion (FitsOperator (v ∷ [])) operators each;
  rules = lit≤ tt;
  each_rule = All-nil (FitsRule (plain metric (v ∷ []) (0 ∷ []) goal operators));
}

-- The two variables fit, and so does what each has at first.
record FitBoth (v w : Variable) (x y : ℕ) : Type 0 where
  first : FitsVariable v
  second : FitsVariable w
  bits : sum_by bits_of (v ∷ w ∷ []) ≤ 65536
  first_value : x < range v
  second_value : y < range w

-- with two variables
two_fits : {v w : Variable} {x y : ℕ} (goal : List Fact) (operators : List Operator) → FitBoth v w x y
    → AreFacts (v ∷ w ∷ []) goal → length operators ≤ 1000000 → AllByRecursion (FitsOperator (v ∷ w ∷ [])) operators
    → Fits (plain 0 (v ∷ w ∷ []) (x ∷ y ∷ []) goal operators)
two_fits {v} {w} {x} {y} goal operators fit goal_fits few each = record {
  metric = lit< tt;
  variables = lit≤ tt;
  each_variable = All-from_recursion FitsVariable (v ∷ w ∷ []) (fit.first, (fit.second, tt));
  bits = fit.bits;
  mutexes = lit≤ tt;
  each_mutex = All-nil (AreFacts (v ∷ w ∷ []));
  initial = refl;
  each_value = two_values v w x y fit.first_value fit.second_value;
  goal = goal_fits;
  operators = few;
  each_operator = All-from_recursion (FitsOperator (v ∷ w ∷ [])) operators each;
  rules = lit≤ tt;
  each_rule = All-nil (FitsRule (plain 0 (v ∷ w ∷ []) (x ∷ y ∷ []) goal operators));
}

lamp_fits : (name : List ℕ) → goes_on name ≡ true → FitsVariable (lamp name)
unfolding goes_on
lamp_fits name n = pair_fits name (codes "off") (codes "on") n refl refl

either_fits : FitsVariable either
unfolding goes_on
either_fits = pair_fits (codes "x") (codes "x0") (codes "x1") refl refl refl

three_fit : FitsVariable any_of_three
unfolding goes_on
three_fit = triple_fits (codes "x") (codes "x0") (codes "x1") (codes "x2") refl refl refl refl

a_or_b_fits : FitsVariable a_or_b
unfolding goes_on
a_or_b_fits = pair_fits (codes "var0") (codes "a") (codes "b") refl refl refl

-- changes the first of the variables, which has two values at least
first_changes : (v : Variable) (vs : List Variable) (name : List ℕ) (from to cost : ℕ) → goes_on name ≡ true → v.layer ≡ None → from < range v → to < range v → FitsOperator (v ∷ vs) (change name 0 from to cost)
first_changes v vs name from to cost n b f t = change_fits (v ∷ vs) name 0 from to cost n (record { conds = no_facts (v ∷ vs); on = (b, t); pre = f })

-- changes the second of the variables
second_changes : (v w : Variable) (name : List ℕ) (from to cost : ℕ) → goes_on name ≡ true → w.layer ≡ None → from < range w → to < range w → FitsOperator (v ∷ w ∷ []) (change name 1 from to cost)
second_changes v w name from to cost n b f t = change_fits (v ∷ w ∷ []) name 1 from to cost n (record { conds = no_facts (v ∷ w ∷ []); on = (b, t); pre = f })

lamp_changes : (name called : List ℕ) (from to : ℕ) → goes_on called ≡ true → from < 2 → to < 2 → FitsOperator (lamp name ∷ []) (change called 0 from to 1)
lamp_changes name called from to n f t = first_changes (lamp name) [] called from to 1 n refl f t

pub one_switch_fits : Fits one_switch
unfolding goes_on width doublings
one_switch_fits = one_fits 0 (lamp (codes "var0")) (fact 0 1 ∷ []) (change (codes "switch-on") 0 0 1 1 ∷ []) (lit< tt) (lamp_fits (codes "var0") refl) (lit≤ tt) (lit< tt)
    (facts (lamp (codes "var0") ∷ []) (fact 0 1 ∷ []) (lit≤ tt) (lit< tt, tt)) (lit≤ tt)
    (lamp_changes (codes "var0") (codes "switch-on") 0 1 refl (lit< tt) (lit< tt), tt)

pub switch_and_back_fits : Fits switch_and_back
unfolding goes_on width doublings
switch_and_back_fits = one_fits 0 (lamp (codes "var0")) (fact 0 1 ∷ []) (change (codes "switch-on") 0 0 1 1 ∷ change (codes "switch-off") 0 1 0 1 ∷ []) (lit< tt) (lamp_fits (codes "var0") refl) (lit≤ tt) (lit< tt)
    (facts (lamp (codes "var0") ∷ []) (fact 0 1 ∷ []) (lit≤ tt) (lit< tt, tt)) (lit≤ tt) (
      lamp_changes (codes "var0") (codes "switch-on") 0 1 refl (lit< tt) (lit< tt),
      (lamp_changes (codes "var0") (codes "switch-off") 1 0 refl (lit< tt) (lit< tt), tt),
    )

pub two_switches_fits : Fits two_switches
unfolding goes_on width doublings
two_switches_fits =
    let a = lamp (codes "a") in
    let b = lamp (codes "b") in
    let fit : FitBoth a b 0 0 = record {
      first = lamp_fits (codes "a") refl;
      second = lamp_fits (codes "b") refl;
      bits = lit≤ tt;
      first_value = lit< tt;
      second_value = lit< tt;
    } in
    two_fits (fact 0 1 ∷ fact 1 1 ∷ []) (change (codes "a-on") 0 0 1 1 ∷ change (codes "b-on") 1 0 1 1 ∷ []) fit
    (facts (a ∷ b ∷ []) (fact 0 1 ∷ fact 1 1 ∷ []) (lit≤ tt) (lit< tt, (lit< tt, tt))) (lit≤ tt) (
      first_changes a (b ∷ []) (codes "a-on") 0 1 1 refl refl (lit< tt) (lit< tt),
      (second_changes a b (codes "b-on") 0 1 1 refl refl (lit< tt) (lit< tt), tt),
    )

pub goal_at_start_fits : Fits goal_at_start
unfolding goes_on width doublings
goal_at_start_fits = one_fits 1 a_or_b (fact 0 0 ∷ []) [] (lit< tt) a_or_b_fits (lit≤ tt) (lit< tt)
    (facts (a_or_b ∷ []) (fact 0 0 ∷ []) (lit≤ tt) (lit< tt, tt)) (lit≤ tt) tt

pub no_operator_fits : Fits no_operator
unfolding goes_on width doublings
no_operator_fits = one_fits 1 a_or_b (fact 0 1 ∷ []) [] (lit< tt) a_or_b_fits (lit≤ tt) (lit< tt)
    (facts (a_or_b ∷ []) (fact 0 1 ∷ []) (lit≤ tt) (lit< tt, tt)) (lit≤ tt) tt

pub no_plan_fits : Fits no_plan
unfolding goes_on width doublings
no_plan_fits =
    let a = lamp (codes "aim") in
    let b = lamp (codes "lamp") in
    let fit : FitBoth a b 0 0 = record {
      first = lamp_fits (codes "aim") refl;
      second = lamp_fits (codes "lamp") refl;
      bits = lit≤ tt;
      first_value = lit< tt;
      second_value = lit< tt;
    } in
    two_fits (fact 0 1 ∷ []) (change (codes "up") 1 0 1 1 ∷ change (codes "down") 1 1 0 1 ∷ []) fit
    (facts (a ∷ b ∷ []) (fact 0 1 ∷ []) (lit≤ tt) (lit< tt, tt)) (lit≤ tt) (
      second_changes a b (codes "up") 0 1 1 refl refl (lit< tt) (lit< tt),
      (second_changes a b (codes "down") 1 0 1 refl refl (lit< tt) (lit< tt), tt),
    )

idle_fits : (variables : List Variable) → FitsOperator variables idle
unfolding goes_on
idle_fits variables = record {
  name = literal (codes "idle") refl;
  prevail = no_facts variables;
  effects = lit≤ tt;
  each = All-nil (FitsEffect variables);
}

pub zero_costs_fits : Fits zero_costs
unfolding goes_on width doublings
zero_costs_fits = one_fits 1 either (fact 0 1 ∷ []) (change (codes "go") 0 0 1 1 ∷ idle ∷ []) (lit< tt) either_fits (lit≤ tt) (lit< tt)
    (facts (either ∷ []) (fact 0 1 ∷ []) (lit≤ tt) (lit< tt, tt)) (lit≤ tt)
    (first_changes either [] (codes "go") 0 1 1 refl refl (lit< tt) (lit< tt), (idle_fits (either ∷ []), tt))

pub same_name_twice_fits : Fits same_name_twice
unfolding goes_on width doublings
same_name_twice_fits =
    let go = first_changes either [] (codes "go") 0 1 1 refl refl (lit< tt) (lit< tt) in
    one_fits 0 either (fact 0 1 ∷ []) (change (codes "go") 0 0 1 1 ∷ change (codes "go") 0 0 1 1 ∷ []) (lit< tt) either_fits (lit≤ tt) (lit< tt)
    (facts (either ∷ []) (fact 0 1 ∷ []) (lit≤ tt) (lit< tt, tt)) (lit≤ tt) (go, (go, tt))

third_of_three : AreFacts (any_of_three ∷ []) (fact 0 2 ∷ [])
third_of_three = facts (any_of_three ∷ []) (fact 0 2 ∷ []) (lit≤ tt) (lit< tt, tt)

pub past_64_bits_fits : Fits past_64_bits
unfolding goes_on width doublings
past_64_bits_fits = one_fits 1 any_of_three (fact 0 2 ∷ []) (change (codes "big") 0 0 1 18446744073709551615 ∷ change (codes "one") 0 1 2 1 ∷ []) (lit< tt) three_fit (lit≤ tt) (lit< tt)
    third_of_three (lit≤ tt) (
      first_changes any_of_three [] (codes "big") 0 1 18446744073709551615 refl refl (lit< tt) (lit< tt),
      (first_changes any_of_three [] (codes "one") 1 2 1 refl refl (lit< tt) (lit< tt), tt),
    )

pub near_and_far_fits : Fits near_and_far
unfolding goes_on width doublings
near_and_far_fits = one_fits 1 any_of_three (fact 0 2 ∷ []) (change (codes "near") 0 0 1 1 ∷ change (codes "far") 0 1 2 1000000000000 ∷ change (codes "jump") 0 0 2 1000000000000 ∷ []) (lit< tt) three_fit (lit≤ tt) (lit< tt)
    third_of_three (lit≤ tt) (
      first_changes any_of_three [] (codes "near") 0 1 1 refl refl (lit< tt) (lit< tt),
      (
        first_changes any_of_three [] (codes "far") 1 2 1000000000000 refl refl (lit< tt) (lit< tt),
        (first_changes any_of_three [] (codes "jump") 0 2 1000000000000 refl refl (lit< tt) (lit< tt), tt),
      ),
    )

abbrev a_and_b : List Variable
a_and_b = conditional_effects.variables

swap_fits : FitsOperator a_and_b swap
unfolding goes_on
swap_fits = record {
  name = literal (codes "swap") refl;
  prevail = no_facts a_and_b;
  effects = lit≤ tt;
  each = All-from_recursion (FitsEffect a_and_b) swap.effects (
    record { conds = facts a_and_b (fact 1 0 ∷ []) (lit≤ tt) (lit< tt, tt); on = (refl, lit< tt); pre = tt },
    (
      record { conds = facts a_and_b (fact 1 1 ∷ []) (lit≤ tt) (lit< tt, tt); on = (refl, lit< tt); pre = tt },
      (
        record { conds = facts a_and_b (fact 0 0 ∷ []) (lit≤ tt) (lit< tt, tt); on = (refl, lit< tt); pre = tt },
        (record { conds = facts a_and_b (fact 0 1 ∷ []) (lit≤ tt) (lit< tt, tt); on = (refl, lit< tt); pre = tt }, tt),
      ),
    ),
  );
}

pub conditional_effects_fits : Fits conditional_effects
unfolding goes_on width doublings
conditional_effects_fits =
    let a = base (codes "a") (codes "a0" ∷ codes "a1" ∷ []) in
    let b = base (codes "b") (codes "b0" ∷ codes "b1" ∷ []) in
    let fit : FitBoth a b 1 0 = record {
      first = pair_fits (codes "a") (codes "a0") (codes "a1") refl refl refl;
      second = pair_fits (codes "b") (codes "b0") (codes "b1") refl refl refl;
      bits = lit≤ tt;
      first_value = lit< tt;
      second_value = lit< tt;
    } in
    two_fits (fact 0 0 ∷ fact 1 1 ∷ []) (swap ∷ []) fit
    (facts a_and_b (fact 0 0 ∷ fact 1 1 ∷ []) (lit≤ tt) (lit< tt, (lit< tt, tt))) (lit≤ tt) (swap_fits, tt)

-- values of the one variable that has two
two_effects_fit : (earlier later : ℕ) → earlier < 2 → later < 2 → FitsOperator (either ∷ []) (two_effects earlier later)
unfolding goes_on
two_effects_fit earlier later e l = record {
  name = literal (codes "two") refl;
  prevail = no_facts (either ∷ []);
  effects = lit≤ tt;
  each = All-from_recursion (FitsEffect (either ∷ [])) (made earlier ∷ made later ∷ []) (
    record { conds = no_facts (either ∷ []); on = (refl, e); pre = tt },
    (record { conds = no_facts (either ∷ []); on = (refl, l); pre = tt }, tt),
  );
}

one_way_fits : (earlier later : ℕ) → earlier < 2 → later < 2 → Fits (plain 0 (either ∷ []) (0 ∷ []) (fact 0 1 ∷ []) (two_effects earlier later ∷ []))
unfolding goes_on width doublings
one_way_fits earlier later e l = one_fits 0 either (fact 0 1 ∷ []) (two_effects earlier later ∷ []) (lit< tt) either_fits (lit≤ tt) (lit< tt)
    (facts (either ∷ []) (fact 0 1 ∷ []) (lit≤ tt) (lit< tt, tt)) (lit≤ tt) (two_effects_fit earlier later e l, tt)

pub later_effect_undoes_fits : Fits later_effect_undoes
later_effect_undoes_fits = one_way_fits 1 0 (lit< tt) (lit< tt)

pub later_effect_reaches_fits : Fits later_effect_reaches
later_effect_reaches_fits = one_way_fits 0 1 (lit< tt) (lit< tt)

done_fits : (place : ℕ) → place < 3 → FitsRule axioms (done_at place)
done_fits place small = record {
  conds = facts axioms.variables (fact 0 place ∷ []) (lit≤ tt) (small, tt);
  layer = 0;
  on = refl;
  new = lit< tt;
  kept = (λ _. All-from_recursion (MayStand axioms 0) (fact 0 place ∷ []) (inl refl, tt));
}

pub axioms_fits : Fits axioms
unfolding goes_on width doublings
axioms_fits =
    let place = base (codes "pos") (codes "p0" ∷ codes "p1" ∷ codes "p2" ∷ []) in
    let done : Variable = record { name = codes "done"; layer = Some 0; values = codes "no" ∷ codes "yes" ∷ [] } in
    record {
      metric = lit< tt;
      variables = lit≤ tt;
      each_variable = All-from_recursion FitsVariable (place ∷ done ∷ []) (
        triple_fits (codes "pos") (codes "p0") (codes "p1") (codes "p2") refl refl refl refl,
        (
          record {
            name = literal (codes "done") refl;
            values = All-from_recursion IsName (codes "no" ∷ codes "yes" ∷ []) (literal (codes "no") refl, (literal (codes "yes") refl, tt));
            range = record { some = lit≤ tt; most = lit≤ tt; derived = refl; layer_most = lit< tt };
          },
          tt,
        ),
      );
      bits = lit≤ tt;
      mutexes = lit≤ tt;
      each_mutex = All-nil (AreFacts axioms.variables);
      initial = refl;
      each_value = two_values place done 0 0 (lit< tt) (lit< tt);
      goal = facts axioms.variables (fact 1 1 ∷ []) (lit≤ tt) (lit< tt, tt);
      operators = lit≤ tt;
      each_operator = All-from_recursion (FitsOperator axioms.variables) axioms.operators (
        first_changes place (done ∷ []) (codes "m1") 0 1 1 refl refl (lit< tt) (lit< tt),
        (first_changes place (done ∷ []) (codes "m2") 1 2 1 refl refl (lit< tt) (lit< tt), tt),
      );
      rules = lit≤ tt;
      each_rule = All-from_recursion (FitsRule axioms) axioms.rules (done_fits 1 (lit< tt), (done_fits 2 (lit< tt), tt));
    }
