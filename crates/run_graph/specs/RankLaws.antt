-- The laws of ranks by keys.
use Rattle.std.specs.Prelude.{ℕ, suc, ◌+◌, ◌<◌, ◌≤◌, ◌^◌, Bool, IsTrue}
use Rattle.task_system.specs.System.{State, System}
use Rattle.run_graph.specs.Graph.{seen_from}
use Rattle.run_graph.specs.Reached.{AtCost}
use Rattle.run_graph.specs.declared.Side.{Side}
use Rattle.run_graph.specs.Inside.{InsideAt, other}
use Rattle.run_graph.specs.Ranks.{Ranks, ComesBy, AreRankKeys, AreRanks, NoneBelow, AreNext, AddsRank, WaitsOn}

-- ranks and keys by tests
abbrev pub Places : Type 0
Places = ℕ → ℕ → State → Bool

abbrev pub told : Places → Ranks
told at = λ i x s. IsTrue (at i x s)

abbrev pub of : (State → Bool) → State → Type 0
of test s = IsTrue (test s)

-- a ranked state is reached at its cost, or leads to the goal at it, and by no run inside at less
abbrev pub RanksAreLeastCosts : Type 0
RanksAreLeastCosts = (side : Side) (y : System) (within : State → Bool) (f : ℕ) (at waits : Places) (many : ℕ)
    → AreRanks (seen_from side y) (of within) f (told at) many (told waits)
    → (i x : ℕ) (s : State) → told at i x s
    → AtCost side y x s × ((d : ℕ) → InsideAt side y (of within) d s → x ≤ d)

-- where no key is below n, a run from one end to the other through a state that has no rank costs n or more
abbrev pub KeysBoundRuns : Type 0
KeysBoundRuns = (side : Side) (y : System) (within : State → Bool) (f : ℕ) (at waits : Places) (many n : ℕ)
    → AreRanks (seen_from side y) (of within) f (told at) many (told waits)
    → NoneBelow (told waits) n
    → (s : State) → ((i x : ℕ) → ¬ told at i x s)
    → (a d : ℕ) → AtCost (other side) y a s → InsideAt side y (of within) d s → d < 2 ^ 64 → n ≤ a + d

-- the states next by key can be ranked
abbrev pub OneMoreRankIsRight : Type 0
OneMoreRankIsRight = (side : Side) (y : System) (within new : State → Bool) (f : ℕ) (at more waits after : Places) (many n x : ℕ)
    → AreRanks (seen_from side y) (of within) f (told at) many (told waits)
    → AreNext (seen_from side y) f (told at) (told waits) n x (of new)
    → AddsRank (told at) (told more) many x (of new)
    → WaitsOn (seen_from side y) (of within) (told more) x (of new) (told waits) (told after)
    → AreRankKeys (seen_from side y) (of within) f (told more) (suc many) (told after)
    → AreRanks (seen_from side y) (of within) f (told more) (suc many) (told after)

-- what waits may be told anew, as where a set is split, or left out since it has ranks
abbrev pub WaitingMayBeToldAnew : Type 0
WaitingMayBeToldAnew = (side : Side) (y : System) (within : State → Bool) (f : ℕ) (at waits after : Places) (many : ℕ)
    → AreRanks (seen_from side y) (of within) f (told at) many (told waits)
    → AreRankKeys (seen_from side y) (of within) f (told at) many (told after)
    → ((k c : ℕ) (s : State) → told waits k c s → ComesBy (told at) (told after) c s)
    → AreRanks (seen_from side y) (of within) f (told at) many (told after)

-- the other end may go on: what is known of it only grows
abbrev pub OtherEndMayGoOn : Type 0
OtherEndMayGoOn = (side : Side) (y : System) (within : State → Bool) (f g : ℕ) (at waits : Places) (many : ℕ)
    → f ≤ g
    → AreRanks (seen_from side y) (of within) f (told at) many (told waits)
    → AreRanks (seen_from side y) (of within) g (told at) many (told waits)
