use Rattle.lazy_plans.proofs.ListLaw.{rest_first, right_more, rest_more, exhausted, out_of_range, all_up_to, rest_stays}
use Rattle.lazy_plans.proofs.laws.given_plans_are_right.Goals as goal

pub returns-clause-first : goal.returns-clause-first
returns-clause-first g c = (λ x ok whole. let i = g.I.LazyPlans in rest_first (i.system x) (i.mode x) (i.most x)
    (i.pends x) (g.met.I.LazyPlans.fair x ok) whole)

pub returns-clause-more : goal.returns-clause-more
returns-clause-more g c = (λ system mode most plans x y p right rest gave. let i = g.I.LazyPlans in (
  right_more system mode plans (i.pends x) rest most (i.pends y) p gave right,
  rest_more system mode plans (i.pends x) rest most (i.pends y) p gave,
))

pub returns-clause-none : goal.returns-clause-none
returns-clause-none g c = (λ system mode plans x rest none. exhausted system mode plans (g.I.LazyPlans.pends x) rest none)

pub returns-clause-range : goal.returns-clause-range
returns-clause-range g c = (λ system mode plans x rest stops. out_of_range system mode plans (g.I.LazyPlans.pends x) rest stops)

pub returns-clause-up_to : goal.returns-clause-up_to
returns-clause-up_to g c = (λ system mode most plans x rest none. all_up_to system mode plans (g.I.LazyPlans.pends x) rest most none)

pub returns-clause-stays : goal.returns-clause-stays
returns-clause-stays g c = (λ system mode plans x y rest stays. let i = g.I.LazyPlans in rest_stays system mode plans (i.pends x) rest (i.pends y) stays)
