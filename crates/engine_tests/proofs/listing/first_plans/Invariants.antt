use Rattle.std.proofs.Common.{◌≡◌}
use Rattle.std.specs.Prelude.{vec_len}
use Rattle.engine_tests.proofs.listing.first_plans.Given as goal

-- each call counts its own turns
abbrev pub ghosts-ask : goal.ghosts-ask
ghosts-ask g a = record { name = a.blank.name; parts = a.blank.parts }

-- a plan of each call so far
abbrev pub invariant-calls : goal.invariant-calls
invariant-calls g l = record { lawful : g.I.LazyPlans.lawful l.engine; count : vec_len l.plans ≡ l.call }
