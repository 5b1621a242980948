-- RunsInSystem of prefixes, the states that they pass, and which prefixes lead on.
use Rattle.std.proofs.Common.{◌≡◌, ℕ, ◌+◌, ◌≤◌, Bool, true, false, IsTrue, List, [], ◌∷◌, ◌++◌, Option, Some, unwrap_or, refl, sym, ◌∙◌, ap, subst, arith}
use Rattle.std.specs.List.{AllByRecursion}
use Rattle.std.specs.Bool.{Decides}
use Rattle.std.proofs.lemmas.List.Elements.{All-from_recursion}
use Rattle.symk_task.specs.declared.parts.Mode.{Mode}
use Rattle.symk_task.specs.declared.parts.Mode.TheVariants.{TopK, Loopless, Unordered}
use Rattle.task_system.specs.System.{State, System, Listed, Leads, RunsInSystem, IsSystemPlan, IsSystemPlanOf, trace, next_state, cost_in_system}
use Rattle.lazy_plans.specs.Queue.{prefix, ind, IsAllowed, Good, Bounds, Hopeless}
use Rattle.lazy_plans.proofs.Splits.{rest_of, cost_join, prefix_join}

step_is : (y : System) (op : ℕ) (s m : State) → Leads y op s m → next_state y op s ≡ m
step_is y op s m l = ap (λ (o : Option State). unwrap_or o s) l.step

-- where a run is cut
pub runs_cut : (y : System) (e q : List ℕ) (s t : State) → RunsInSystem y s (e ++ q) t → (m : State) × RunsInSystem y s e m × RunsInSystem y m q t
runs_cut y [] q s t r = (s, refl, r)
runs_cut y (op ∷ e) q s t r =
    let c = runs_cut y e q r.0 t r.2 in
    (c.0, (r.0, r.1, c.1), c.2)

pub runs_join : (y : System) (e q : List ℕ) (s m t : State) → RunsInSystem y s e m → RunsInSystem y m q t → RunsInSystem y s (e ++ q) t
runs_join y [] q s m t r k = subst (λ (x : State). RunsInSystem y x q t) (sym r) k
runs_join y (op ∷ e) q s m t r k = (r.0, r.1, runs_join y e q r.0 m t r.2 k)

some_is : (a b : State) → Some a ≡ Some b → a ≡ b
some_is a b e = cc

pub one_end : (y : System) (e : List ℕ) (s m t : State) → RunsInSystem y s e m → RunsInSystem y s e t → m ≡ t
one_end y [] s m t r k = sym r ∙ k
one_end y (op ∷ e) s m t r k =
    let same : r.0 ≡ k.0 = some_is r.0 k.0 (sym r.1.step ∙ k.1.step) in
    one_end y e r.0 m t r.2 (subst (λ (x : State). RunsInSystem y x e t) (sym same) k.2)

-- the trace of a prefix, longer by an operator
pub trace_more : (y : System) (e : List ℕ) (op : ℕ) (s m t : State) → RunsInSystem y s e m → Leads y op m t → trace y s (e ++ op ∷ []) ≡ trace y s e ++ t ∷ []
trace_more y [] op s m t r l =
    let is : next_state y op s ≡ t = step_is y op s t (subst (λ (x : State). Leads y op x t) (sym r) l) in
    ap (λ (x : State). s ∷ (x ∷ [])) is
trace_more y (a ∷ e) op s m t r l =
    let is : next_state y a s ≡ r.0 = step_is y a s r.0 r.1 in
    ap (λ (x : State). s ∷ trace y x (e ++ op ∷ [])) is ∙ (ap (λ (z : List State). s ∷ z)
    (trace_more y e op r.0 m t r.2 l) ∙ ap (λ (x : State). s ∷ (trace y x e ++ t ∷ [])) (sym is))

-- the trace of a longer list begins with that of its front
pub trace_front : (y : System) (e q : List ℕ) (s t : State) → RunsInSystem y s (e ++ q) t → (more : List State) × (trace y s (e ++ q) ≡ trace y s e ++ more)
trace_front y [] [] s t r = ([], refl)
trace_front y [] (a ∷ q) s t r = (trace y (next_state y a s) q, refl)
trace_front y (a ∷ e) q s t r =
    let is : next_state y a s ≡ r.0 = step_is y a s r.0 r.1 in
    let f = trace_front y e q r.0 t r.2 in
    (f.0, ap (λ (x : State). s ∷ trace y x (e ++ q)) is ∙ (ap (λ (z : List State). s ∷ z) f.1 ∙ ap (λ (x : State). s ∷ (trace y x e ++ f.0)) (sym is)))

-- a plan of a mode is a plan
pub plan_of : (y : System) (m : Mode) (p : List ℕ) → IsSystemPlanOf y m p → IsSystemPlan y p
plan_of y TopK p i = i
plan_of y Unordered p i = i
plan_of y Loopless p i = i.0

-- a plan that is as the mode asks is one of it
pub plan_in : (y : System) (m : Mode) (e : List ℕ) → IsAllowed y m e → IsSystemPlan y e → IsSystemPlanOf y m e
plan_in y TopK e a plan = plan
plan_in y Unordered e a plan = plan
plan_in y Loopless e a plan = (plan, a)

-- the prefix of a plan runs, and what follows leads on to where the plan ends
pub front_runs : (y : System) (e p : List ℕ) (plan : IsSystemPlan y p) → prefix e p ≡ true → (s : State) × (q : List ℕ)
    × (p ≡ e ++ q) × RunsInSystem y y.initial e s × RunsInSystem y s q plan.0
front_runs y e p plan h =
    let r = rest_of e p h in
    let c = runs_cut y e r.0 y.initial plan.0 (subst (λ (z : List ℕ). RunsInSystem y y.initial z plan.0) r.1 plan.1) in
    (c.0, r.0, r.1, c.1, c.2)

-- a prefix that leads on to the goal begins a plan
pub leads_on : (y : System) (e q : List ℕ) (s t : State) → RunsInSystem y y.initial e s → RunsInSystem y s q t → IsTrue (y.goal t)
    → IsSystemPlan y (e ++ q) × (prefix e (e ++ q) ≡ true)
leads_on y e q s t run more goal = ((t, runs_join y e q y.initial s t run more, goal), prefix_join e q)

each_more : (P : State → Type 0) (xs : List State) (t : State) → AllByRecursion P xs → P t → AllByRecursion P (xs ++ t ∷ [])
each_more P [] t a h = (h, tt)
each_more P (x ∷ xs) t a h = (a.0, each_more P xs t a.1 h)

-- the child by an operator that leads on is good, where it is as the mode asks
pub good_child : (y : System) (m : Mode) (e : List ℕ) (op : ℕ) (t : State) (g : Good y m e) → Leads y op g.end t
    → Listed y.states t → IsAllowed y m (e ++ op ∷ []) → Good y m (e ++ op ∷ [])
good_child y m e op t g l is allowed =
    let more = trace_more y e op y.initial g.end t g.runs l in
    record {
      end = t;
      runs = runs_join y e (op ∷ []) y.initial g.end t g.runs (t, l, refl);
      allowed = allowed;
      listed = subst (AllByRecursion (Listed y.states)) (sym more) (each_more (Listed y.states) (trace y y.initial e) t g.listed is);
    }

-- the empty prefix
pub good_first : (y : System) (m : Mode) → Listed y.states y.initial → Good y m []
good_first y m l = record { end = y.initial; runs = refl; allowed = allowed_first m; listed = (l, tt) }
  where
    allowed_first : (m : Mode) → IsAllowed y m []
    allowed_first TopK = tt
    allowed_first Unordered = tt
    allowed_first Loopless = (All-from_recursion (λ (x : State). y.initial ≡ x → ⊥) [] tt, tt)

pub never : (b : Bool) → (b ≡ true → ⊥) → ind b ≡ 0
never true n = absurd (n refl)
never false n = refl

-- where the operator doesn't lead on from the end of the prefix, no plan goes on so
pub no_move : (y : System) (m : Mode) (e : List ℕ) (op : ℕ) (end : State) → RunsInSystem y y.initial e end
    → ((t : State) → ¬ Leads y op end t) → Hopeless y m (e ++ op ∷ [])
no_move y m e op end run none p i = never (prefix (e ++ op ∷ []) p) (λ h.
    let f = front_runs y (e ++ op ∷ []) p (plan_of y m p i) h in
    let c = runs_cut y e (op ∷ []) y.initial f.0 f.3 in
    let is : c.0 ≡ end = one_end y e y.initial c.0 end c.1 run in
    none c.2.0 (subst (λ (x : State). Leads y op x c.2.0) is c.2.1))

-- where no list leads from the end of the prefix to the goal, no plan goes on from it
pub stuck : (y : System) (m : Mode) (e : List ℕ) (end : State) → RunsInSystem y y.initial e end
    → ((q : List ℕ) (t : State) → RunsInSystem y end q t → ¬ IsTrue (y.goal t)) → Hopeless y m e
stuck y m e end run none p i = never (prefix e p) (λ h.
    let plan = plan_of y m p i in
    let f = front_runs y e p plan h in
    let is : f.0 ≡ end = one_end y e y.initial f.0 end f.3 run in
    none f.1 plan.0 (subst (λ (x : State). RunsInSystem y x f.1 plan.0) is f.4) plan.2)

-- a plan that goes on from the prefix costs what the prefix costs and what is left at least
pub bounds_by : (y : System) (e : List ℕ) (end : State) → RunsInSystem y y.initial e end → (left : ℕ)
    → ((q : List ℕ) (t : State) → RunsInSystem y end q t → IsTrue (y.goal t) → left ≤ cost_in_system y q)
    → Bounds y e (cost_in_system y e + left)
bounds_by y e end run left least p plan h =
    let f = front_runs y e p plan h in
    let is : f.0 ≡ end = one_end y e y.initial f.0 end f.3 run in
    let le = least f.1 plan.0 (subst (λ (x : State). RunsInSystem y x f.1 plan.0) is f.4) plan.2 in
    omega (arith, ap (cost_in_system y) f.2, cost_join y e f.1, le)

-- the prefix is a plan exactly where its end is a goal state
pub plan_by : (y : System) (e : List ℕ) (end : State) → RunsInSystem y y.initial e end → (at_goal : Bool)
    → Decides at_goal (IsTrue (y.goal end)) → Decides at_goal (IsSystemPlan y e)
plan_by y e end run at_goal d = (
  (λ h. (end, run, d.0 h)),
  (λ p. d.1 (subst (λ (x : State). y.goal x ≡ true) (one_end y e y.initial p.0 end p.1 run) p.2)),
)
