-- The computed tests are right.
use Rattle.std.proofs.Common.{◌≡◌, ◌≢◌, ℕ, Bool, true, false, ◌&&◌, not, nat_lt, eqb, IsTrue, inl, inr, List, [], ◌∷◌, Option, Some, None, refl, sym, ◌∙◌, ap, subst, arith, eq-eqb}
use Rattle.std.specs.Bool.{Decides}
use Rattle.std.specs.List.{All, AllByRecursion}
use Rattle.std.proofs.lemmas.List.Elements.{All-from_recursion, recursion_from_All}
use Rattle.std.proofs.lemmas.Bool.Decides.{nat_tests, Decides-and, Decides-or, Decides-not, Decides-ltb, Decides-like}
use Rattle.task_system.specs.System.{State, System, Listed, RunsInSystem}
use Rattle.task_system.specs.System.{IsSystemPlanOf, trace, are_equal}
use Rattle.symk_task.specs.Plans.{AllDifferent}
use Rattle.lazy_plans.specs.Told.{on_step, leads_to_goal, is_listed, all_different, is_plan_in}
use Rattle.symk_task.specs.declared.parts.Mode.{Mode}
use Rattle.symk_task.specs.declared.parts.Mode.TheVariants.{TopK, Loopless, Unordered}

eq_of : (a b : ℕ) → eqb a b ≡ true → a ≡ b
eq_of a b e = grind (arith, nat_tests)

both : (a b : Bool) → (a && b) ≡ true → (a ≡ true) × (b ≡ true)
both true true e = (refl, refl)
both true false e = cc
both false b e = cc

pub equal_is : (p q : List ℕ) → are_equal p q ≡ true → p ≡ q
equal_is [] [] e = refl
equal_is [] (y ∷ q) e = cc
equal_is (x ∷ p) [] e = cc
equal_is (x ∷ p) (y ∷ q) e =
    let h = both (eqb x y) (are_equal p q) e in
    ap (λ (z : ℕ). z ∷ p) (eq_of x y h.0) ∙ ap (λ (z : List ℕ). y ∷ z) (equal_is p q h.1)

pub equal_self : (p : List ℕ) → are_equal p p ≡ true
equal_self [] = refl
equal_self (x ∷ p) = rw (eq-eqb x x refl, equal_self p) refl

equal_told : (p q : List ℕ) → Decides (are_equal p q) (p ≡ q)
equal_told p q = (equal_is p q, λ e. subst (λ (z : List ℕ). are_equal p z ≡ true) e (equal_self p))

listed_told : (xs : List State) (s : State) → Decides (is_listed xs s) (Listed xs s)
listed_told [] s = ((λ e. cc), (λ l. absurd l))
listed_told (x ∷ xs) s = Decides-or (are_equal x s) (is_listed xs s) (equal_told x s) (listed_told xs s)

out_all : (xs : List State) (s : State) → ¬ Listed xs s → AllByRecursion (λ (x : State). s ≢ x) xs
out_all [] s n = tt
out_all (x ∷ xs) s n = ((λ e. n (inl (sym e))), out_all xs s (λ l. n (inr l)))

all_out : (xs : List State) (s : State) → AllByRecursion (λ (x : State). s ≢ x) xs → ¬ Listed xs s
all_out [] s a l = l
all_out (x ∷ xs) s a (inl e) = a.0 (sym e)
all_out (x ∷ xs) s a (inr l) = all_out xs s a.1 l

apart_told : (xs : List State) (s : State) → Decides (not (is_listed xs s)) (All (λ (x : State). s ≢ x) xs)
apart_told xs s = Decides-like (not (is_listed xs s)) (λ n. All-from_recursion (λ (x : State). s ≢ x) xs
    (out_all xs s n)) (λ a. all_out xs s (recursion_from_All (λ (x : State). s ≢ x) xs a))
    (Decides-not (is_listed xs s) (listed_told xs s))

different_told : (ss : List State) → Decides (all_different ss) (AllDifferent ss)
different_told [] = ((λ e. tt), (λ d. refl))
different_told (s ∷ ss) = Decides-and (not (is_listed ss s)) (all_different ss) (apart_told ss s) (different_told ss)

some_is : (a b : State) → Some a ≡ Some b → a ≡ b
some_is a b e = cc

none_some : (a : State) → None ≡ Some a → ⊥
none_some a e = cc

step_told : (o : Option State) (f : State → Bool) (P : State → Type 0) → ((t : State) → Decides (f t) (P t))
    → Decides (on_step o f) ((t : State) × (o ≡ Some t) × P t)
step_told None f P d = ((λ e. cc), (λ h. absurd (none_some h.0 h.1)))
step_told (Some t) f P d = ((λ e. (t, refl, (d t).0 e)), (λ h. (d t).1 (subst P (sym (some_is t h.0 h.1)) h.2)))

goal_told : (y : System) (p : List ℕ) (s : State) → Decides (leads_to_goal y s p) ((t : State) × RunsInSystem y s p t × IsTrue (y.goal t))
goal_told y [] s = ((λ e. (s, refl, e)), (λ h. subst (λ (x : State). y.goal x ≡ true) (sym h.1) h.2))
goal_told y (op ∷ p) s =
    let next = step_told (y.step op s) (λ t. leads_to_goal y t p) (λ m. (t : State) × RunsInSystem y m p t × IsTrue (y.goal t)) (goal_told y p) in
    Decides-like (leads_to_goal y s (op ∷ p))
    (λ h. (h.1.2.0, (h.1.0, record { number = h.0; step = h.1.1 }, h.1.2.1), h.1.2.2))
    (λ h. (h.1.1.number, (h.1.0, h.1.1.step, (h.0, h.1.2, h.2))))
    (Decides-and (nat_lt op y.operators) (on_step (y.step op s) (λ t. leads_to_goal y t p)) (Decides-ltb op y.operators) next)

pub in_told : (y : System) (m : Mode) (p : List ℕ) → Decides (is_plan_in y m p) (IsSystemPlanOf y m p)
in_told y TopK p = goal_told y p y.initial
in_told y Unordered p = goal_told y p y.initial
in_told y Loopless p = Decides-and (leads_to_goal y y.initial p) (all_different (trace y y.initial p))
    (goal_told y p y.initial) (different_told (trace y y.initial p))
