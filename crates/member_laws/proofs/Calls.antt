-- Calls of several turns, refused, and given again.
use Rattle.std.proofs.Common.{◌≡◌, ℕ, List, Option, Some, None, Result, Ok, Err, refl, sym, subst}
use Rattle.task_system.specs.System.{System}
use Rattle.lazy_plans.specs.Law.{PendsAlike, MayStop, NoneLeft, Ended, last_of}
use Rattle.lazy_plans.specs.declared.stop.Stop.{Stop}
use Rattle.lazy_plans.specs.declared.stop.Stop.TheVariants.{Memory, CostRange}
use Rattle.lazy_plans.specs.declared.stop.Ending.{Ending}
use Rattle.selectors.specs.Members.{GaveMember, KeepsMembers, TurnedMembers}
use Rattle.member_laws.specs.Nodes.{PendsNode}

keeps_self : (a : List ℕ → Type 0) → KeepsMembers a a
keeps_self a = record { fewer = λ q h. h; members = λ q h. record { member = q; alike = λ b. refl; pending = h } }

keeps_from : (a b c : List ℕ → Type 0) → PendsAlike a b → KeepsMembers b c → KeepsMembers a c
keeps_from a b c s k = record { fewer = λ q h. (s q).0 (k.fewer q h); members = λ q h. k.members q ((s q).1 h) }

none_before : (y : System) (most : Option ℕ) (a b : List ℕ → Type 0) → PendsAlike a b → NoneLeft y most b → NoneLeft y most a
none_before y None a b s n = λ q h. n q ((s q).1 h)
none_before y (Some c) a b s n = λ q h. n q ((s q).1 h)

stops_before : (y : System) (most : Option ℕ) (a b : List ℕ → Type 0) (stop : Stop) → PendsAlike a b → MayStop y most b stop → MayStop y most a stop
stops_before y None a b Memory s h = tt
stops_before y (Some c) a b Memory s h = tt
stops_before y None a b CostRange s h = ((h.0.0, (s h.0.0).0 h.0.1), (λ q k. h.1 q ((s q).1 k)))
stops_before y (Some c) a b CostRange s h = absurd h

-- the law, seen from an earlier value of which the same pends
pub turned_from : (y : System) (most : Option ℕ) (a b c : List ℕ → Type 0) (r : Result (Option (List ℕ)) Stop)
    → PendsAlike a b → TurnedMembers y most b c r → TurnedMembers y most a c r
turned_from y most a b c (Ok (Some p)) s g = record {
  pended = (s p).0 g.pended;
  fits = g.fits;
  least = λ q h. g.least q ((s q).1 h);
  fewer = λ q h. let k = g.fewer q h in ((s q).0 k.0, k.1);
  members = λ q h. g.members q ((s q).1 h);
}
turned_from y most a b c (Ok None) s h = (none_before y most a b s h.0, keeps_from a b c s h.1)
turned_from y most a b c (Err stop) s h = (stops_before y most a b stop s h.0, keeps_from a b c s h.1)

none_after : (y : System) (most : Option ℕ) (a b : List ℕ → Type 0) → KeepsMembers a b → NoneLeft y most a → NoneLeft y most b
none_after y None a b k n = λ q h. n q (k.fewer q h)
none_after y (Some c) a b k n = λ q h. n q (k.fewer q h)

stops_after : (y : System) (most : Option ℕ) (a b : List ℕ → Type 0) (stop : Stop) → KeepsMembers a b → MayStop y most a stop → MayStop y most b stop
stops_after y None a b Memory k h = tt
stops_after y (Some c) a b Memory k h = tt
stops_after y None a b CostRange k h = ((let m = k.members h.0.0 h.0.1 in (m.member, m.pending)), (λ q z. h.1 q (k.fewer q z)))
stops_after y (Some c) a b CostRange k h = absurd h

-- what ended it is still so afterwards
pub ended_by : (y : System) (most : Option ℕ) (a b : List ℕ → Type 0) (r : Result (Option (List ℕ)) Stop)
    → TurnedMembers y most a b r → Ended y most b (last_of r)
ended_by y most a b (Ok (Some p)) g = tt
ended_by y most a b (Ok None) h = none_after y most a b h.1 h.0
ended_by y most a b (Err stop) h = stops_after y most a b stop h.1 h.0

none_some : (e : Ending) → None ≡ Some e → ⊥
none_some e is = cc

-- the answer that ended it may be given again
pub again : (y : System) (most : Option ℕ) (a : List ℕ → Type 0) (r : Result (Option (List ℕ)) Stop) (e : Ending)
    → last_of r ≡ Some e → Ended y most a (Some e) → TurnedMembers y most a a r
again y most a (Ok (Some p)) e is h = absurd (none_some e is)
again y most a (Ok None) e is h = (subst (Ended y most a) (sym is) h, keeps_self a)
again y most a (Err s) e is h = (subst (Ended y most a) (sym is) h, keeps_self a)

-- out of memory says nothing of what pends
memory_stops : (y : System) (most : Option ℕ) (before : List ℕ → Type 0) → MayStop y most before Memory
memory_stops y None before = tt
memory_stops y (Some c) before = tt

-- turns that opened no plan took what was opened from `first` to `old`
module _ (y : System) (most : Option ℕ) (first old : List (List ℕ)) (stays : PendsAlike (PendsNode y first) (PendsNode y old)) where
  -- and one more to `new`, which gives a plan
  pub call_gives : (new : List (List ℕ)) (p : List ℕ) → GaveMember y most (PendsNode y old) (PendsNode y new) p
      → TurnedMembers y most (PendsNode y first) (PendsNode y new) (Ok (Some p))
  call_gives new p g = turned_from y most (PendsNode y first) (PendsNode y old) (PendsNode y new) (Ok (Some p)) stays g

  pub call_ends : NoneLeft y most (PendsNode y old) → TurnedMembers y most (PendsNode y first) (PendsNode y old) (Ok None)
  call_ends n = turned_from y most (PendsNode y first) (PendsNode y old) (PendsNode y old) (Ok None) stays (n, keeps_self (PendsNode y old))

  pub call_stops : (stop : Stop) → MayStop y most (PendsNode y old) stop → TurnedMembers y most (PendsNode y first) (PendsNode y old) (Err stop)
  call_stops stop s = turned_from y most (PendsNode y first) (PendsNode y old) (PendsNode y old) (Err stop) stays (s, keeps_self (PendsNode y old))

  -- memory is refused before one more is opened
  pub call_refused : TurnedMembers y most (PendsNode y first) (PendsNode y old) (Err Memory)
  call_refused = call_stops Memory (memory_stops y most (PendsNode y old))
