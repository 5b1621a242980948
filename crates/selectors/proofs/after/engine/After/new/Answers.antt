use Rattle.lazy_plans.proofs.ListLaw.{rest_first, rest_without}
use Rattle.lazy_plans.proofs.Keyed.{are_keys_of, unlisted_of}
use Rattle.selectors.proofs.after.engine.After.new.Goals as goal

pub returns-clause-lawful : goal.returns-clause-lawful
returns-clause-lawful g c = record {
  lawful = c.requires.lawful;
  same_mode = c.requires.mode;
  keyed = are_keys_of _ c.args.mode _ c.args.plans.now c.in_ok-keys.keys c.in_ok-keys.ensures.keys c.requires.cheap;
  short = c.in_ok-keys.ensures.short;
}

pub returns-clause-pends : goal.returns-clause-pends
returns-clause-pends g c = unlisted_of c.args.mode c.args.plans.now c.in_ok-keys.keys c.in_ok-keys.ensures.keys (g.I.LazyPlans.pends c.args.inner)

pub returns-clause-rest : goal.returns-clause-rest
returns-clause-rest g c = λ whole.
    let i = g.I.LazyPlans in
    let fair = rw (← c.requires.mode) at (g.met.I.LazyPlans.fair c.args.inner c.requires.lawful) in
    let left = unlisted_of c.args.mode c.args.plans.now c.in_ok-keys.keys c.in_ok-keys.ensures.keys (i.pends c.args.inner) in
    rest_without (i.system c.args.inner) c.args.mode c.args.plans.now (i.pends c.args.inner) _
    (rest_first (i.system c.args.inner) c.args.mode (i.most c.args.inner) (i.pends c.args.inner) fair whole)
    (λ p. ((λ h. let k = (left p).0 h in (k.1, k.0)), (λ h. (left p).1 (h.1, h.0))))
