use Rattle.std.proofs.Common.{ℕ, ◌<◌, ◌≤◌, ◌-◌, ◌^◌, arith}
use Rattle.task_system.specs.System.{cost_in_system}
use Rattle.lazy_plans.proofs.ListLaw.{right_up_to, right_all, missing, exhausted}
use Rattle.lazy_plans.proofs.laws.earlier_plans_are_right.Goals as goal

lt_le : (a b : ℕ) → a < b → a ≤ b
lt_le a b h = omega arith

pub returns-clause-given : goal.returns-clause-given
returns-clause-given g c = (λ system mode most plans x y p good rest gave ends. right_up_to system mode plans
    (g.I.LazyPlans.pends x) rest good (cost_in_system system p) gave.least ends)

pub returns-clause-missing : goal.returns-clause-missing
returns-clause-missing g c = (λ system mode most plans x y p rest gave cheaper. let i = g.I.LazyPlans in missing
    system mode plans (i.pends x) rest most (i.pends y) p gave cheaper)

pub returns-clause-none : goal.returns-clause-none
returns-clause-none g c = (λ system mode plans x good rest none. let pends = g.I.LazyPlans.pends x in right_all system
    mode plans pends rest good (exhausted system mode plans pends rest none))

pub returns-clause-range : goal.returns-clause-range
returns-clause-range g c = (λ system mode plans x good ends rest stops. right_up_to system mode plans
    (g.I.LazyPlans.pends x) rest good (2 ^ 64 - 1) (λ q h. lt_le _ _ (stops.1 q h)) ends)

pub returns-clause-up_to : goal.returns-clause-up_to
returns-clause-up_to g c = (λ system mode most plans x good ends rest none. right_up_to system mode plans
    (g.I.LazyPlans.pends x) rest good most (λ q h. lt_le _ _ (none q h)) ends)
