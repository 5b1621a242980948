-- The conditions and the end of an effect's line, found from the left.
use Rattle.std.proofs.Common.{◌≡◌, ℕ, suc, ◌-◌, ◌+◌, ◌<◌, ◌≤◌, List, [], ◌∷◌, ◌++◌, Option, Some, None, refl, sym, ap, ◌∙◌, arith, append_assoc}
use Rattle.std.proofs.lemmas.List.{append-nil}
use Rattle.std.specs.Option.{option_map, option_and_then}
use Rattle.symk_task.specs.declared.parts.Fact.{Fact}
use Rattle.symk_task.specs.declared.parts.Variable.{Variable}
use Rattle.sas_reader.specs.Numbers.{with_first}
use Rattle.sas_reader.specs.Reading.{fact_first, with_fact, conds_of, ending_numbers}

abbrev Numbers : Type 0
Numbers = Option (List (Option ℕ))

abbrev Found : Type 0 → Type 0
Found A = Option (A × List (Option ℕ))

-- a first fact

-- one after the other

and_then_twice : {A B C : Type 0} (f : A → Option B) (g : B → Option C) (o : Option A)
    → option_and_then (λ a. option_and_then g (f a)) o ≡ option_and_then g (option_and_then f o)
and_then_twice f g None = refl
and_then_twice f g (Some a) = refl

abbrev pub conds_in : List Variable → ℕ → Numbers → Found (List Fact)
conds_in variables n o = option_and_then (conds_of variables n) o

one_taken : (variables : List Variable) (n : ℕ) (o o2 : Numbers) (fact : Fact)
    → option_and_then (fact_first variables) o ≡ option_map (λ ns. (fact, ns)) o2
    → conds_in variables (suc n) o ≡ with_fact fact (conds_in variables n o2)
unfolding conds_of
one_taken variables n o o2 fact e =
    and_then_twice (fact_first variables) (λ (x : Fact × List (Option ℕ)). with_fact x.0 (conds_of variables n x.1)) o
    ∙ ap (option_and_then (λ (x : Fact × List (Option ℕ)). with_fact x.0 (conds_of variables n x.1))) e ∙ rest_taken o2
  where
    rest_taken : (o : Numbers) → option_and_then (λ (x : Fact × List (Option ℕ)). with_fact x.0
        (conds_of variables n x.1)) (option_map (λ ns. (fact, ns)) o) ≡ with_fact fact (conds_in variables n o)
    rest_taken None = refl
    rest_taken (Some ns) = refl

none_taken : (variables : List Variable) (n : ℕ) (o : Numbers) → option_and_then (fact_first variables) o ≡ None → conds_in variables (suc n) o ≡ None
unfolding conds_of
none_taken variables n o e =
    and_then_twice (fact_first variables) (λ (x : Fact × List (Option ℕ)). with_fact x.0 (conds_of variables n x.1)) o
    ∙ ap (option_and_then (λ (x : Fact × List (Option ℕ)). with_fact x.0 (conds_of variables n x.1))) e

-- what was found before, and what is still found
abbrev pub after_facts : List Fact → Found (List Fact) → Found (List Fact)
after_facts front found = option_map (λ x. (front ++ x.0, x.1)) found

regroup : (front : List Fact) (fact : Fact) (found : Found (List Fact)) → after_facts front (with_fact fact found) ≡ after_facts (front ++ fact ∷ []) found
regroup front fact None = refl
regroup front fact (Some x) = ap (λ (z : List Fact). Some (z, x.1)) (simp append_assoc)

pub facts_go_on : (variables : List Variable) (front : List Fact) (count i : ℕ) (o o2 : Numbers) (fact : Fact)
    (total : Found (List Fact)) → i < count → option_and_then (fact_first variables) o ≡ option_map
    (λ ns. (fact, ns)) o2
    → after_facts front (conds_in variables (count - i) o) ≡ total → after_facts (front ++ fact ∷ []) (conds_in variables (count - (i + 1)) o2) ≡ total
facts_go_on variables front count i o o2 fact total lt e so_far =
    let k : count - i ≡ suc (count - (i + 1)) = omega arith in
    let one : after_facts front (conds_in variables (count - i) o) ≡ after_facts (front ++ fact ∷ [])
    (conds_in variables (count - (i + 1)) o2) = rw (k, one_taken variables (count - (i + 1)) o o2 fact e)
    (regroup front fact (conds_in variables (count - (i + 1)) o2)) in
    sym one ∙ so_far

pub facts_end : (variables : List Variable) (front : List Fact) (count i : ℕ) (o : Numbers)
    (total : Found (List Fact)) → i < count → option_and_then (fact_first variables) o ≡ None
    → after_facts front (conds_in variables (count - i) o) ≡ total → total ≡ None
facts_end variables front count i o total lt e so_far =
    let k : count - i ≡ suc (count - (i + 1)) = omega arith in
    let one : after_facts front (conds_in variables (count - i) o) ≡ None = rw (k, none_taken variables (count - (i + 1)) o e) refl in
    sym so_far ∙ one

pub facts_done : (variables : List Variable) (front : List Fact) (count i : ℕ) (o : Numbers)
    (total : Found (List Fact)) → count ≤ i → after_facts front (conds_in variables (count - i) o) ≡ total
    → total ≡ option_map (λ ns. (front, ns)) o
unfolding conds_of
facts_done variables front count i o total le so_far =
    let k : count - i ≡ 0 = omega arith in
    sym so_far ∙ rw k (by_numbers o)
  where
    by_numbers : (o : Numbers) → after_facts front (option_and_then (λ ns. Some ([], ns)) o) ≡ option_map (λ ns. (front, ns)) o
    by_numbers None = refl
    by_numbers (Some ns) = ap (λ (z : List Fact). Some (z, ns)) (append-nil front)

-- how many, and then so many

-- the end

pub ending_is : (o o1 o2 o3 : Numbers) (var : ℕ) (pre : Option ℕ) (post : ℕ) → o ≡ with_first (Some var) o1
    → o1 ≡ with_first pre o2 → o2 ≡ with_first (Some post) o3 → o3 ≡ Some []
    → Some (var, pre, post) ≡ option_and_then ending_numbers o
ending_is o o1 o2 o3 var pre post e f g h = rw (e, f, g, h) refl

pub not_ending : (o o1 o2 o3 : Numbers) (var : ℕ) (pre : Option ℕ) (post : ℕ) → o ≡ with_first (Some var) o1
    → o1 ≡ with_first pre o2 → o2 ≡ with_first (Some post) o3 → (o3 ≡ Some [] → ⊥)
    → None ≡ option_and_then ending_numbers o
not_ending o o1 o2 None var pre post e f g h = rw (e, f, g) refl
not_ending o o1 o2 (Some []) var pre post e f g h = absurd (h refl)
not_ending o o1 o2 (Some (n ∷ ns)) var pre post e f g h = rw (e, f, g) refl

-- the effect of what was found
