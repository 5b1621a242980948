-- Answers of an engine seen from an earlier value, and answers given again.
use Rattle.std.proofs.Common.{◌≡◌, ℕ, List, Option, Some, None, Result, Ok, Err, subst}
use Rattle.symk_task.specs.declared.parts.Mode.{Mode}
use Rattle.task_system.specs.System.{System}
use Rattle.lazy_plans.specs.Law.{PendsAlike, MayStop, NoneLeft, Turned, Ended, last_of}
use Rattle.lazy_plans.specs.declared.stop.Stop.{Stop}
use Rattle.lazy_plans.specs.declared.stop.Stop.TheVariants.{Memory, CostRange}
use Rattle.lazy_plans.specs.declared.stop.Ending.{Ending}
use Rattle.lazy_plans.specs.declared.stop.Ending.TheVariants.{Exhausted, StoppedBy}

-- the law seen from an earlier value of which the same pends
pub stays_trans : (a b c : List ℕ → Type 0) → PendsAlike a b → PendsAlike b c → PendsAlike a c
stays_trans a b c s t q = ((λ h. (s q).0 ((t q).0 h)), (λ h. (t q).1 ((s q).1 h)))

none_from : (y : System) (most : Option ℕ) (a b : List ℕ → Type 0) → ((q : List ℕ) → b q → a q) → NoneLeft y most a → NoneLeft y most b
none_from y None a b s n = λ q h. n q (s q h)
none_from y (Some c) a b s n = λ q h. n q (s q h)

stops_from : (y : System) (most : Option ℕ) (a b : List ℕ → Type 0) (stop : Stop) → PendsAlike a b → MayStop y most a stop → MayStop y most b stop
stops_from y None a b Memory s h = tt
stops_from y (Some c) a b Memory s h = tt
stops_from y None a b CostRange s h = ((h.0.0, (s h.0.0).1 h.0.1), (λ q k. h.1 q ((s q).0 k)))
stops_from y (Some c) a b CostRange s h = absurd h

stays_back : (a b : List ℕ → Type 0) → PendsAlike a b → PendsAlike b a
stays_back a b s q = ((s q).1, (s q).0)

pub turned_from : (y : System) (m : Mode) (most : Option ℕ) (a b c : List ℕ → Type 0)
    (r : Result (Option (List ℕ)) Stop) → PendsAlike a b → Turned y m most b c r → Turned y m most a c r
turned_from y m most a b c (Ok (Some p)) s g = record {
  pended = (s p).0 g.pended;
  fits = g.fits;
  least = λ q h. g.least q ((s q).1 h);
  rest = λ q. ((λ h. let k = (g.rest q).0 h in ((s q).0 k.0, k.1)), (λ h. (g.rest q).1 ((s q).1 h.0, h.1)));
}
turned_from y m most a b c (Ok None) s h = (none_from y most b a (λ q k. (s q).1 k) h.0, stays_trans a b c s h.1)
turned_from y m most a b c (Err stop) s h = (stops_from y most b a stop (stays_back a b s) h.0, stays_trans a b c s h.1)

-- what ended it is still so afterwards
pub ended_by : (y : System) (m : Mode) (most : Option ℕ) (a b : List ℕ → Type 0) (r : Result (Option (List ℕ)) Stop)
    → Turned y m most a b r → Ended y most b (last_of r)
ended_by y m most a b (Ok (Some p)) g = tt
ended_by y m most a b (Ok None) h = none_from y most a b (λ q k. (h.1 q).0 k) h.0
ended_by y m most a b (Err stop) h = stops_from y most a b stop h.1 h.0

none_some : (e : Ending) → None ≡ Some e → ⊥
none_some e is = cc

of_stop : (s t : Stop) → Some (StoppedBy s) ≡ Some (StoppedBy t) → t ≡ s
of_stop s t e = cc

-- the answer that ended it may be given again
pub again : (y : System) (m : Mode) (most : Option ℕ) (a : List ℕ → Type 0) (r : Result (Option (List ℕ)) Stop) (e : Ending)
    → last_of r ≡ Some e → Ended y most a (Some e) → Turned y m most a a r
again y m most a (Ok (Some p)) e is h = absurd (none_some e is)
again y m most a (Ok None) Exhausted is h = (h, λ q. ((λ k. k), (λ k. k)))
again y m most a (Ok None) (StoppedBy s) is h = absurd (other is)
  where
    other : Some Exhausted ≡ Some (StoppedBy s) → ⊥
    other e = cc
again y m most a (Err s) Exhausted is h = absurd (other is)
  where
    other : Some (StoppedBy s) ≡ Some Exhausted → ⊥
    other e = cc
again y m most a (Err s) (StoppedBy t) is h = (subst (MayStop y most a) (of_stop s t is) h, λ q. ((λ k. k), (λ k. k)))
