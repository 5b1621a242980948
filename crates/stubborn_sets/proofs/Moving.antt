-- Operators that commute change places in a run.
use Rattle.std.proofs.Common.{◌≡◌, ℕ, zero, suc, ◌+◌, ◌==◌, Bool, cond, IsTrue, List, [], ◌∷◌, ◌++◌, length, Option, Some, unwrap_or, refl, sym, ap, subst, ◌∙◌, arith, length-append}
use Rattle.std.specs.List.{AllByRecursion, count_by}
use Rattle.std.proofs.lemmas.List.Sums.{sum_by-cons}
use Rattle.task_system.specs.System.{State, System, Listed, Leads, RunsInSystem, next_state, cost_in_system}
use Rattle.space_api.specs.Listing.{ListsReached}
use Rattle.space_api.proofs.Runs.{run_append, run_more}
use Rattle.stubborn_sets.specs.Commuting.{Commute}
use Rattle.stubborn_sets.specs.Stubborn.{IsApplicable, FirstOf, Stubborn, Rearranges, BeginsIn, StepsInside, StepsChosen}

-- an operator leads to one state
one_next : (y : System) (a : ℕ) (s t u : State) → Leads y a s t → Leads y a s u → t ≡ u
one_next y a s t u l k = (let e : Some t ≡ Some u = sym l.step ∙ k.step in let same : t ≡ u = cc in same)

-- How often an operator stands in a list.

count_cons : (a x : ℕ) (p : List ℕ) → count_by (λ b. a == b) (x ∷ p) ≡ cond (a == x) 1 0 + count_by (λ b. a == b) p
count_cons a x p = sum_by-cons (λ b. cond (a == b) 1 0) x p

-- an element in the midst may stand in front
count_moved : (a x : ℕ) (before later : List ℕ) → count_by (λ b. a == b) (before ++ x ∷ later) ≡ count_by (λ b. a == b) (x ∷ (before ++ later))
count_moved a x [] later = refl
count_moved a x (z ∷ before) later =
    let e = count_cons a z (before ++ x ∷ later) in
    let f = count_cons a x (z ∷ (before ++ later)) in
    let g = count_cons a z (before ++ later) in
    let k = count_cons a x (before ++ later) in
    let ih = count_moved a x before later in omega (arith, e, f, g, k, ih)

cost_moved : (y : System) (x : ℕ) (before later : List ℕ) → cost_in_system y (x ∷ (before ++ later)) ≡ cost_in_system y (before ++ x ∷ later)
cost_moved y x [] later = refl
cost_moved y x (z ∷ before) later = (let ih = cost_moved y x before later in omega (arith, ih))

count_same : (a x : ℕ) (p q : List ℕ) → count_by (λ b. a == b) p ≡ count_by (λ b. a == b) q → count_by (λ b. a == b) (x ∷ p) ≡ count_by (λ b. a == b) (x ∷ q)
count_same a x p q h = (let e = count_cons a x p in let f = count_cons a x q in omega (arith, e, f, h))

-- the first of two, later
exchange : (y : System) (a b : ℕ) (p : List ℕ) (s t : State) → Listed y.states s → Commute y a b → IsApplicable y b s
    → RunsInSystem y s (a ∷ b ∷ p) t → RunsInSystem y s (b ∷ a ∷ p) t
exchange y a b p s t listed commute (n, lead) (m, first, (k, second, rest)) =
    let both = commute.either s m n listed first lead in
    let same : k ≡ both.0 = one_next y b m k both.0 second both.1 in
    (n, lead, (both.0, both.2, subst (λ (z : State). RunsInSystem y z p t) same rest))

count_after : (a : ℕ) (before p q : List ℕ) → count_by (λ b. a == b) p ≡ count_by (λ b. a == b) q
    → count_by (λ b. a == b) (before ++ p) ≡ count_by (λ b. a == b) (before ++ q)
count_after a [] p q h = h
count_after a (x ∷ before) p q h = count_same a x (before ++ p) (before ++ q) (count_after a before p q h)

cost_after : (y : System) (before p q : List ℕ) → cost_in_system y q ≡ cost_in_system y p → cost_in_system y (before ++ q) ≡ cost_in_system y (before ++ p)
cost_after y [] p q h = h
cost_after y (x ∷ before) p q h = ap (λ (c : ℕ). y.cost x + c) (cost_after y before p q h)

-- runs from listed states end in listed ones
ends_listed : (y : System) (p : List ℕ) (s t : State) → ListsReached y → Listed y.states s → RunsInSystem y s p t → Listed y.states t
ends_listed y [] s t lists listed runs = subst (Listed y.states) runs listed
ends_listed y (a ∷ p) s t lists listed (m, lead, rest) = ends_listed y p m t lists (lists.steps a s m listed lead) rest

-- the listed states miss none that a run reaches, and the state is one of them
pub record Within (y : System) (s : State) : Type 0 where
  pub lists : ListsReached y
  pub listed : Listed y.states s

-- an operator leads from a listed state to a listed one
steps_within : {y : System} {a : ℕ} {s m : State} → Within y s → Leads y a s m → Within y m
steps_within {y} {a} {s} {m} within lead = record {
  lists = within.lists;
  listed = within.lists.steps a s m within.listed lead;
}

pub exchanged : {y : System} {a b : ℕ} {s : State} (before later : List ℕ) (m t : State) → Within y s → Commute y a b
    → RunsInSystem y s before m → IsApplicable y b m → RunsInSystem y m (a ∷ b ∷ later) t
    → Rearranges y s t (before ++ a ∷ b ∷ later) (before ++ b ∷ a ∷ later)
exchanged {y} {a} {b} {s} before later m t within commute to applies runs = record {
  runs = (let listed = ends_listed y before s m within.lists within.listed to in
      run_append y s before m (b ∷ a ∷ later) t to (exchange y a b later m t listed commute applies runs));
  same = λ x. count_after x before (a ∷ b ∷ later) (b ∷ a ∷ later) (count_moved x b (a ∷ []) later);
  steps = length-append before (b ∷ a ∷ later) ∙ sym (length-append before (a ∷ b ∷ later));
  cost = cost_after y before (a ∷ b ∷ later) (b ∷ a ∷ later) (cost_moved y b (a ∷ []) later);
}

-- what commutes with each before it, to the front
move : {y : System} {x : ℕ} {s u : State} (before later : List ℕ) (t : State) → Within y s → Leads y x s u
    → AllByRecursion (Commute y x) before → RunsInSystem y s (before ++ x ∷ later) t → RunsInSystem y s (x ∷ (before ++ later)) t
move [] later t within lead commute runs = runs
move {y} {x} {s} {u} (b ∷ before) later t within lead commute (m, first, rest) =
    let both = commute.0.either s u m within.listed lead first in
    let moved = move before later t (steps_within within first) both.2 commute.1 rest in
    let same : moved.0 ≡ both.0 = one_next y x m moved.0 both.0 moved.1 both.2 in
    (u, lead, (both.0, both.1, subst (λ (z : State). RunsInSystem y z (before ++ later) t) same moved.2))

pub moved : (y : System) (set : ℕ → Bool) (s t : State) (p : List ℕ) → ListsReached y → Listed y.states s
    → (f : FirstOf y set s p) → RunsInSystem y s p t → Rearranges y s t p (f.first ∷ (f.before ++ f.later))
moved y set s t p lists listed f runs = record {
  runs = (let within : Within y s = record { lists = lists; listed = listed } in
      move f.before f.later t within f.applies.1 f.commutes (subst (λ (z : List ℕ). RunsInSystem y s z t) f.here runs));
  same = λ a. ap (λ (z : List ℕ). count_by (λ b. a == b) z) f.here ∙ count_moved a f.first f.before f.later;
  steps = (let l = length-append f.before (f.first ∷ f.later) in let k = length-append f.before f.later in
      let e = ap (λ (z : List ℕ). length z) f.here in omega (arith, l, k, e));
  cost = cost_moved y f.first f.before f.later ∙ sym (ap (cost_in_system y) f.here);
}

pub begun : (y : System) (set : ℕ → Bool) (s t : State) (p : List ℕ) → ListsReached y → Listed y.states s
    → Stubborn y set s → RunsInSystem y s p t → IsTrue (y.goal t) → ¬ (p ≡ []) → (q : List ℕ)
    × BeginsIn set q × Rearranges y s t p q
begun y set s t [] lists listed stubborn runs goal some = absurd (some refl)
begun y set s t (a ∷ p) lists listed stubborn runs goal some =
    let f = stubborn.first a p t runs goal in
    (f.first ∷ (f.before ++ f.later), f.inside, moved y set s t (a ∷ p) lists listed f runs)

shorter : (before : List ℕ) (x : ℕ) (later : List ℕ) (n : ℕ) → length (before ++ x ∷ later) ≡ suc n → length (before ++ later) ≡ n
shorter before x later n e =
    let l = length-append before (x ∷ later) in
    let k = length-append before later in
    let c : length (x ∷ later) ≡ suc (length later) = refl in omega (arith, e, l, k, c)

-- each step inside, by the number of steps
inside : {y : System} {s : State} (n : ℕ) (set : State → ℕ → Bool) (t : State) (p : List ℕ) → length p ≡ n → Within y s
    → ((r : State) → Listed y.states r → Stubborn y (set r) r) → RunsInSystem y s p t → IsTrue (y.goal t)
    → (q : List ℕ) × StepsInside y set s q × Rearranges y s t p q
inside n set t [] size within stubborn runs goal =
    ([], tt, record { runs = runs; same = λ a. refl; steps = refl; cost = refl })
inside zero set t (a ∷ p) size within stubborn runs goal = (let e : suc (length p) ≡ 0 = size in absurd (omega arith))
inside {y} {s} (suc n) set t (a ∷ p) size within stubborn runs goal =
    let f = (stubborn s within.listed).first a p t runs goal in
    let r = f.before ++ f.later in
    let re = moved y (set s) s t (a ∷ p) within.lists within.listed f runs in
    let m = re.runs.0 in
    let lead = re.runs.1 in
    let short : length r ≡ n = shorter f.before f.first f.later n (ap length (sym f.here) ∙ size) in
    let rest = inside {s = m} n set t r short (steps_within within lead) stubborn re.runs.2 goal in
    let next : m ≡ next_state y f.first s = sym (ap (λ (o : Option State). unwrap_or o s) lead.step) in (
      f.first ∷ rest.0,
      (f.inside, subst (λ (z : State). StepsInside y set z rest.0) next rest.1),
      record {
        runs = (m, lead, rest.2.runs);
        same = λ x. re.same x ∙ count_same x f.first r rest.0 (rest.2.same x);
        steps = ap suc rest.2.steps ∙ re.steps;
        cost = ap (λ (c : ℕ). y.cost f.first + c) rest.2.cost ∙ re.cost;
      },
    )

pub member : (y : System) (set : State → ℕ → Bool) (s t : State) (p : List ℕ) → ListsReached y
    → ((r : State) → Listed y.states r → Stubborn y (set r) r) → Listed y.states s → RunsInSystem y s p t
    → IsTrue (y.goal t) → (q : List ℕ) × StepsInside y set s q × Rearranges y s t p q
member y set s t p lists stubborn listed runs goal =
    inside (length p) set t p refl (record { lists = lists; listed = listed }) stubborn runs goal

-- after each run from o the set chosen for its operators is stubborn where the run ends
record AreChosen (y : System) (set : List ℕ → ℕ → Bool) (o : State) : Type 0 where
  after : (e : List ℕ) (r : State) → RunsInSystem y o e r → Stubborn y (set e) r

-- each step chosen, after the operators `before`
chosen : {y : System} {set : List ℕ → ℕ → Bool} {o s : State} (n : ℕ) (t : State) (before p : List ℕ) → length p ≡ n
    → AreChosen y set o → Within y s → RunsInSystem y o before s → RunsInSystem y s p t → IsTrue (y.goal t)
    → (q : List ℕ) × StepsChosen set before q × Rearranges y s t p q
chosen n t before [] size sets within from runs goal =
    ([], tt, record { runs = runs; same = λ a. refl; steps = refl; cost = refl })
chosen zero t before (a ∷ p) size sets within from runs goal =
    (let e : suc (length p) ≡ 0 = size in absurd (omega arith))
chosen {y} {set} {o} {s} (suc n) t before (a ∷ p) size sets within from runs goal =
    let f = (sets.after before s from).first a p t runs goal in
    let r = f.before ++ f.later in
    let re = moved y (set before) s t (a ∷ p) within.lists within.listed f runs in
    let m = re.runs.0 in
    let lead = re.runs.1 in
    let short : length r ≡ n = shorter f.before f.first f.later n (ap length (sym f.here) ∙ size) in
    let onward = run_more y o before s f.first m from lead in
    let there = steps_within within lead in
    let rest = chosen {s = m} n t (before ++ f.first ∷ []) r short sets there onward re.runs.2 goal in (
      f.first ∷ rest.0,
      (f.inside, rest.1),
      record {
        runs = (m, lead, rest.2.runs);
        same = λ x. re.same x ∙ count_same x f.first r rest.0 (rest.2.same x);
        steps = ap suc rest.2.steps ∙ re.steps;
        cost = ap (λ (c : ℕ). y.cost f.first + c) rest.2.cost ∙ re.cost;
      },
    )

pub chosen_member : (y : System) (set : List ℕ → ℕ → Bool) (s t : State) (p : List ℕ) → ListsReached y
    → ((e : List ℕ) (r : State) → RunsInSystem y s e r → Stubborn y (set e) r) → Listed y.states s
    → RunsInSystem y s p t → IsTrue (y.goal t)
    → (q : List ℕ) × StepsChosen set [] q × Rearranges y s t p q
chosen_member y set s t p lists stubborn listed runs goal =
    let sets : AreChosen y set s = record { after = stubborn } in
    chosen (length p) t [] p refl sets (record { lists = lists; listed = listed }) refl runs goal
