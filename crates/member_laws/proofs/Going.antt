-- A plan that pends goes on from the queue.
use Rattle.std.proofs.Common.{◌≡◌, ℕ, zero, suc, IsTrue, inl, inr, List, [], ◌∷◌, ◌++◌, length, refl, sym, ◌∙◌, subst, append_assoc, arith}
use Rattle.std.proofs.lemmas.List.{append-nil}
use Rattle.task_system.specs.System.{State, System, Listed, RunsInSystem}
use Rattle.space_api.specs.Listing.{ListsReached}
use Rattle.lazy_plans.proofs.Traces.{runs_cut, runs_join, one_end}
use Rattle.stubborn_sets.specs.Stubborn.{Rearranges, BeginsIn}
use Rattle.stubborn_sets.proofs.Moving.{begun}
use Rattle.member_laws.specs.Nodes.{JoinsAtNode, IsJoinedAtNode, MetOrNone, IsClosedPrefix, CoversOpened, PendsNode, GoesOnToJoin}
use Rattle.member_laws.proofs.Joining.{same_after, joins_trans, joins_cost, joined_runs, joined_longer, not_lost}

-- a run from a listed state ends in one
ends_listed : (y : System) (p : List ℕ) (s t : State) → ListsReached y → Listed y.states s → RunsInSystem y s p t → Listed y.states t
ends_listed y [] s t lists listed run = subst (Listed y.states) run listed
ends_listed y (a ∷ p) s t lists listed run = ends_listed y p run.0 t lists (lists.steps a s run.0 listed run.1) run.2

-- a prefix that is met, longer than e by one operator, goes on to what joins e with the rest t
record Next (y : System) (opened queue : List (List ℕ)) (e t : List ℕ) (u : State) : Type 0 where
  child : List ℕ
  rest : List ℕ
  met : MetOrNone y opened queue child
  joins : JoinsAtNode y (e ++ t) (child ++ rest)
  steps : suc (length rest) ≡ length t

module _ (y : System) (opened queue : List (List ℕ)) where
  -- by an operator of the set of e
  chosen : (e t q : List ℕ) (u : State) (c : IsClosedPrefix y opened queue e) → BeginsIn c.set q → Rearranges y c.end u t q
      → RunsInSystem y y.initial (e ++ t) u → Next y opened queue e t u
  chosen e t [] u c inside r run = absurd inside
  chosen e t (op ∷ q) u c inside r run =
      let is : e ++ op ∷ q ≡ (e ++ op ∷ []) ++ q = sym (append_assoc e (op ∷ []) q) in
      record {
        child = e ++ op ∷ [];
        rest = q;
        met = c.steps op inside (r.runs.0, r.runs.1);
        joins = subst (JoinsAtNode y (e ++ t)) is (record {
          same = same_after e t (op ∷ q) r.same;
          end = u;
          runs = run;
          other = runs_join y e (op ∷ q) y.initial c.end u c.runs r.runs;
        });
        steps = r.steps;
      }

  module _ (lists : ListsReached y) (covers : CoversOpened y opened queue) where
    -- a prefix that was opened goes on
    opened_on : (e t : List ℕ) (u : State) → Listed opened e → RunsInSystem y y.initial (e ++ t) u → IsTrue (y.goal u) → ¬ (t ≡ []) → Next y opened queue e t u
    opened_on e t u inside run goal some =
        let c = covers.each e inside in
        let cut = runs_cut y e t y.initial u run in
        let is : cut.0 ≡ c.end = one_end y e y.initial cut.0 c.end cut.1 c.runs in
        let rest : RunsInSystem y c.end t u = subst (λ (s : State). RunsInSystem y s t u) is cut.2 in
        let listed = ends_listed y e y.initial c.end lists lists.initial c.runs in
        let b = begun y c.set c.end u t lists listed c.stubborn rest goal some in
        chosen e t b.0 u c b.1 b.2 run

    -- what goes on to a rearrangement goes on to this
    rejoined : (p q : List ℕ) → JoinsAtNode y p q → GoesOnToJoin y queue q → GoesOnToJoin y queue p
    rejoined p q j g = record {
      entry = g.entry;
      inside = g.inside;
      rest = g.rest;
      plan = g.plan;
      joins = joins_trans y p q (g.entry ++ g.rest) j g.joins;
      cost = g.cost ∙ sym (joins_cost y p q j);
    }

    -- by the number of operators that are left
    carried : (n : ℕ) (x t : List ℕ) (u : State) → length t ≡ n → MetOrNone y opened queue x
        → RunsInSystem y y.initial (x ++ t) u → IsTrue (y.goal u) → ¬ IsJoinedAtNode y opened (x ++ t) → GoesOnToJoin y queue (x ++ t)
    carried n x t u size (inr lost) run goal free = absurd (not_lost y x t (u, run, goal) lost)
    carried n x t u size (inl (inr (e, inside, j))) run goal free =
        let long = joined_longer y x e t u j run in
        record {
          entry = e;
          inside = inside;
          rest = t;
          plan = (u, joined_runs y x e t u j run, goal);
          joins = long;
          cost = sym (joins_cost y (x ++ t) (e ++ t) long);
        }
    carried n x [] u size (inl (inl (e, inside, j))) run goal free = absurd (free (e, inside, subst (λ (z : List ℕ). JoinsAtNode y z e) (sym (append-nil x)) j))
    carried zero x (a ∷ t) u size (inl (inl (e, inside, j))) run goal free = (let none : suc (length t) ≡ 0 = size in absurd (omega arith))
    carried (suc n) x (a ∷ t) u size (inl (inl (e, inside, j))) run goal free =
        let long = joined_longer y x e (a ∷ t) u j run in
        let next = opened_on e (a ∷ t) u inside (joined_runs y x e (a ∷ t) u j run) goal (λ none. cc) in
        let on : JoinsAtNode y (x ++ a ∷ t) (next.child ++ next.rest) = joins_trans y (x ++ a ∷ t) (e ++ a ∷ t) (next.child ++ next.rest) long next.joins in
        let is : on.end ≡ u = one_end y (x ++ a ∷ t) y.initial on.end u on.runs run in
        let there : RunsInSystem y y.initial (next.child ++ next.rest) u = subst
        (λ (s : State). RunsInSystem y y.initial (next.child ++ next.rest) s) is on.other in
        let left : length next.rest ≡ n = omega (arith, next.steps, size) in
        rejoined (x ++ a ∷ t) (next.child ++ next.rest) on (carried n next.child next.rest u left next.met there goal
        (λ h. free (h.0, h.1, joins_trans y (x ++ a ∷ t) (next.child ++ next.rest) h.0 on h.2)))

    pub pending_goes_on : (p : List ℕ) → PendsNode y opened p → GoesOnToJoin y queue p
    pending_goes_on p h = carried (length p) [] p h.0.0 refl covers.root h.0.1 h.0.2 h.1
