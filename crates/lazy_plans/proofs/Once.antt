-- Prefixes that pass no state twice.
use Rattle.std.proofs.Common.{◌≡◌, ◌≢◌, ℕ, suc, ◌<◌, ◌≤◌, true, inl, inr, List, [], ◌∷◌, ◌++◌, length, refl, sym, ◌∙◌, ap, subst, arith}
use Rattle.std.specs.List.{AllByRecursion}
use Rattle.std.proofs.lemmas.List.Elements.{All-from_recursion, recursion_from_All}
use Rattle.symk_task.specs.Plans.{AllDifferent}
use Rattle.symk_task.specs.declared.parts.Mode.TheVariants.{Loopless}
use Rattle.task_system.specs.System.{State, System, Listed, Leads, RunsInSystem, IsSystemPlanOf, trace, next_state}
use Rattle.lazy_plans.specs.Queue.{prefix, IsAllowed, Good, Hopeless}
use Rattle.lazy_plans.proofs.Traces.{runs_cut, one_end, trace_more, trace_front, front_runs, never}

unlisted_left : (xs ys : List State) (s : State) → Listed xs s → Listed (xs ++ ys) s
unlisted_left [] ys s l = absurd l
unlisted_left (x ∷ xs) ys s (inl e) = inl e
unlisted_left (x ∷ xs) ys s (inr l) = inr (unlisted_left xs ys s l)

-- no member of the list stands again behind itself, told by recursion
abbrev Different : List State → Type 0
Different [] = Unit {0}
Different (s ∷ ss) = (¬ Listed ss s) × Different ss

out_all : (xs : List State) (s : State) → ¬ Listed xs s → AllByRecursion (λ (x : State). s ≢ x) xs
out_all [] s n = tt
out_all (x ∷ xs) s n = ((λ e. n (inl (sym e))), out_all xs s (λ l. n (inr l)))

all_out : (xs : List State) (s : State) → AllByRecursion (λ (x : State). s ≢ x) xs → ¬ Listed xs s
all_out [] s a l = l
all_out (x ∷ xs) s a (inl e) = a.0 (sym e)
all_out (x ∷ xs) s a (inr l) = all_out xs s a.1 l

apart_of : (xs : List State) → AllDifferent xs → Different xs
apart_of [] d = tt
apart_of (x ∷ xs) d = (all_out xs x (recursion_from_All (λ (y : State). x ≢ y) xs d.0), apart_of xs d.1)

different_of : (xs : List State) → Different xs → AllDifferent xs
different_of [] d = tt
different_of (x ∷ xs) d = (All-from_recursion (λ (y : State). x ≢ y) xs (out_all xs x d.0), different_of xs d.1)

different_front : (xs ys : List State) → Different (xs ++ ys) → Different xs
different_front [] ys d = tt
different_front (x ∷ xs) ys d = ((λ l. d.0 (unlisted_left xs ys x l)), different_front xs ys d.1)

-- a prefix of a loopless plan runs and passes no state twice
front_different : (y : System) (e p : List ℕ) → IsSystemPlanOf y Loopless p → prefix e p ≡ true → (s : State)
    × RunsInSystem y y.initial e s × AllDifferent (trace y y.initial e)
front_different y e p i h =
    let r = front_runs y e p i.0 h in
    let run = subst (λ (z : List ℕ). RunsInSystem y y.initial z i.0.0) r.2 i.0.1 in
    let f = trace_front y e r.1 y.initial i.0.0 run in
    let d = apart_of (trace y y.initial e ++ f.0) (subst AllDifferent (ap (trace y y.initial) r.2 ∙ f.1) i.1) in
    (r.0, r.3, different_of (trace y y.initial e) (different_front (trace y y.initial e) f.0 d))

listed_not : (xs : List State) (t : State) → Different (xs ++ t ∷ []) → Listed xs t → ⊥
listed_not [] t d l = l
listed_not (x ∷ xs) t d (inl e) = d.0 (last_in xs x t e)
  where
    last_in : (xs : List State) (x t : State) → x ≡ t → Listed (xs ++ t ∷ []) x
    last_in [] x t e = inl (sym e)
    last_in (z ∷ xs) x t e = inr (last_in xs x t e)
listed_not (x ∷ xs) t d (inr l) = listed_not xs t d.1 l

last_apart : (xs : List State) (x t : State) → (Listed xs x → ⊥) → (x ≡ t → ⊥) → Listed (xs ++ t ∷ []) x → ⊥
last_apart [] x t n m (inl e) = m (sym e)
last_apart [] x t n m (inr l) = l
last_apart (z ∷ xs) x t n m (inl e) = n (inl e)
last_apart (z ∷ xs) x t n m (inr l) = last_apart xs x t (λ k. n (inr k)) m l

different_more : (xs : List State) (t : State) → Different xs → (Listed xs t → ⊥) → Different (xs ++ t ∷ [])
different_more [] t d n = ((λ l. l), tt)
different_more (x ∷ xs) t d n = (last_apart xs x t d.0 (λ e. n (inl e)), different_more xs t d.1 (λ l. n (inr l)))

-- the child by an operator that leads to a state not passed is as the mode asks
pub allowed_child : (y : System) (e : List ℕ) (op : ℕ) (t : State) (g : Good y Loopless e) → Leads y op g.end t
    → ¬ Listed (trace y y.initial e) t → IsAllowed y Loopless (e ++ op ∷ [])
allowed_child y e op t g l off =
    let more = trace_more y e op y.initial g.end t g.runs l in
    subst AllDifferent (sym more) (different_of (trace y y.initial e ++ t ∷ [])
    (different_more (trace y y.initial e) t (apart_of (trace y y.initial e) g.allowed) off))

-- where the operator leads to a state already passed, no loopless plan goes on so
pub passed_before : (y : System) (e : List ℕ) (op : ℕ) (end : State) → RunsInSystem y y.initial e end
    → ((t : State) → Leads y op end t → Listed (trace y y.initial e) t) → Hopeless y Loopless (e ++ op ∷ [])
passed_before y e op end run on p i = never (prefix (e ++ op ∷ []) p) (λ h.
    let f = front_different y (e ++ op ∷ []) p i h in
    let c = runs_cut y e (op ∷ []) y.initial f.0 f.1 in
    let is : c.0 ≡ end = one_end y e y.initial c.0 end c.1 run in
    let lead : Leads y op end c.2.0 = subst (λ (x : State). Leads y op x c.2.0) is c.2.1 in
    let more = trace_more y e op y.initial end c.2.0 run lead in
    listed_not (trace y y.initial e) c.2.0 (apart_of (trace y y.initial e ++ c.2.0 ∷ []) (subst AllDifferent more f.2)) (on c.2.0 lead))

-- at most as many different states as there are
without : (ys : List State) (s : State) → Listed ys s → (zs : List State) × (length ys ≡ suc (length zs))
    × ((t : State) → Listed ys t → (s ≡ t → ⊥) → Listed zs t)
without [] s l = absurd l
without (x ∷ ys) s (inl e) = (ys, refl, λ t k off. elim k [ inl i ↦ absurd (off (sym e ∙ i)) | inr m ↦ m ])
without (x ∷ ys) s (inr l) =
    let w = without ys s l in
    (x ∷ w.0, ap suc w.1, λ t k off. elim k [ inl i ↦ inl i | inr m ↦ inr (w.2 t m off) ])

each_without : (xs zs : List State) (s : State) (ys : List State)
    → ((t : State) → Listed ys t → (s ≡ t → ⊥) → Listed zs t) → (Listed xs s → ⊥) → AllByRecursion (Listed ys) xs
    → AllByRecursion (Listed zs) xs
each_without [] zs s ys w n a = tt
each_without (x ∷ xs) zs s ys w n a = (w x a.0 (λ e. n (inl (sym e))), each_without xs zs s ys w (λ l. n (inr l)) a.1)

pub few : (xs ys : List State) → Different xs → AllByRecursion (Listed ys) xs → length xs ≤ length ys
few [] ys d a = omega arith
few (x ∷ xs) ys d a =
    let w = without ys x a.0 in
    let rest = few xs w.0 d.1 (each_without xs w.0 x ys w.2 d.0 a.1) in
    omega (arith, w.1, rest)

trace_length : (y : System) (e : List ℕ) (s : State) → length (trace y s e) ≡ suc (length e)
trace_length y [] s = refl
trace_length y (op ∷ e) s = ap suc (trace_length y e (next_state y op s))

-- so it has fewer operators than the system has states
pub short : (y : System) (e : List ℕ) → Good y Loopless e → length e < length y.states
short y e g = omega (arith, trace_length y e y.initial, few (trace y y.initial e) y.states (apart_of (trace y y.initial e) g.allowed) g.listed)
