-- Prefixes that lead to one node go on alike.
use Rattle.std.proofs.Common.{◌≡◌, ℕ, ◌+◌, ◌==◌, cond, IsTrue, List, ◌++◌, sym, ◌∙◌, refl, subst, arith}
use Rattle.std.specs.List.{count_by}
use Rattle.std.proofs.lemmas.List.Sums.{sum_by-append}
use Rattle.symk_task.specs.declared.parts.Mode.TheVariants.{TopK, Unordered}
use Rattle.symk_task.specs.Plans.{Same}
use Rattle.task_system.specs.System.{State, System, RunsInSystem, IsSystemPlan, cost_in_system}
use Rattle.lazy_plans.proofs.Rearranged.{same_cost}
use Rattle.lazy_plans.specs.Queue.{prefix, ind, Hopeless}
use Rattle.lazy_plans.proofs.Splits.{prefix_join}
use Rattle.lazy_plans.proofs.Traces.{runs_cut, runs_join, one_end, front_runs, never}
use Rattle.member_laws.specs.Nodes.{JoinsAtNode}

-- how often an operator stands in two lists, one after the other
count_join : (a : ℕ) (p q : List ℕ) → count_by (λ b. a == b) (p ++ q) ≡ count_by (λ b. a == b) p + count_by (λ b. a == b) q
count_join a p q = sum_by-append (λ b. cond (a == b) 1 0) p q

-- a rearrangement after the same front is one
pub same_after : (e p q : List ℕ) → Same Unordered p q → Same Unordered (e ++ p) (e ++ q)
same_after e p q h a = omega (arith, count_join a e p, count_join a e q, h a)

-- and one before the same rest
pub same_before : (x z t : List ℕ) → Same Unordered x z → Same Unordered (x ++ t) (z ++ t)
same_before x z t h a = omega (arith, count_join a x t, count_join a z t, h a)

module _ (y : System) where
  pub joins_self : (x : List ℕ) (s : State) → RunsInSystem y y.initial x s → JoinsAtNode y x x
  joins_self x s run = record { same = λ a. refl; end = s; runs = run; other = run }

  pub joins_flip : (x z : List ℕ) → JoinsAtNode y x z → JoinsAtNode y z x
  joins_flip x z j = record { same = λ a. sym (j.same a); end = j.end; runs = j.other; other = j.runs }

  pub joins_trans : (x z w : List ℕ) → JoinsAtNode y x z → JoinsAtNode y z w → JoinsAtNode y x w
  joins_trans x z w j k = record {
    same = λ a. j.same a ∙ k.same a;
    end = j.end;
    runs = j.runs;
    other = subst (λ (s : State). RunsInSystem y y.initial w s) (one_end y z y.initial k.end j.end k.runs j.other) k.other;
  }

  pub joins_cost : (x z : List ℕ) → JoinsAtNode y x z → cost_in_system y x ≡ cost_in_system y z
  joins_cost x z j = same_cost y Unordered x z j.same

  -- what goes on from the one goes on from the other to the same state
  pub joined_runs : (x z t : List ℕ) (u : State) → JoinsAtNode y x z → RunsInSystem y y.initial (x ++ t) u → RunsInSystem y y.initial (z ++ t) u
  joined_runs x z t u j run =
      let c = runs_cut y x t y.initial u run in
      let is : c.0 ≡ j.end = one_end y x y.initial c.0 j.end c.1 j.runs in
      runs_join y z t y.initial j.end u j.other (subst (λ (s : State). RunsInSystem y s t u) is c.2)

  pub joined_longer : (x z t : List ℕ) (u : State) → JoinsAtNode y x z → RunsInSystem y y.initial (x ++ t) u → JoinsAtNode y (x ++ t) (z ++ t)
  joined_longer x z t u j run = record { same = same_before x z t j.same; end = u; runs = run; other = joined_runs x z t u j run }

  -- a list that joins a plan is one
  pub joined_plan : (x z : List ℕ) → JoinsAtNode y x z → IsSystemPlan y x → IsSystemPlan y z
  joined_plan x z j plan = (j.end, j.other, subst (λ (s : State). IsTrue (y.goal s)) (one_end y x y.initial plan.0 j.end plan.1 j.runs) plan.2)

  -- no plan goes on from a prefix that is hopeless
  pub not_lost : (x t : List ℕ) → IsSystemPlan y (x ++ t) → Hopeless y TopK x → ⊥
  not_lost x t plan lost =
      let one : ind (prefix x (x ++ t)) ≡ 1 = rw (prefix_join x t) refl in
      omega (arith, one, lost (x ++ t) plan)

  -- nor from one that joins it
  pub joined_lost : (x z : List ℕ) → JoinsAtNode y x z → Hopeless y TopK z → Hopeless y TopK x
  joined_lost x z j lost p plan = never (prefix x p) (λ on.
      let f = front_runs y x p plan on in
      let run : RunsInSystem y y.initial (x ++ f.1) plan.0 = subst (λ (w : List ℕ). RunsInSystem y y.initial w plan.0) f.2 plan.1 in
      not_lost z f.1 (plan.0, joined_runs x z f.1 plan.0 j run, plan.2) lost)

  -- what joins ends in one state
  pub joins_end : (x z : List ℕ) (s t : State) → JoinsAtNode y x z → RunsInSystem y y.initial x s → RunsInSystem y y.initial z t → s ≡ t
  joins_end x z s t j run other = one_end y x y.initial s j.end run j.runs ∙ one_end y z y.initial j.end t j.other other
