-- What is left to do, and what pends of a queue of prefixes before and after a turn.
use Rattle.std.specs.Prelude.{◌≡◌, ℕ, min, ◌+◌, ◌*◌, ◌-◌, ◌<◌, ◌≤◌, ◌^◌, All, List, [], ◌∷◌, length, slice_index_or, Option, Some, None}
use Rattle.task_system.specs.System.{System}
use Rattle.space_api.specs.View.{View}
use Rattle.cost_to_go.specs.declared.search.CostToGo.{CostToGo}
use Rattle.symk_task.specs.declared.parts.Mode.TheVariants.{TopK}
use Rattle.lazy_plans.specs.Law.{Gave, PendsAlike, top}
use Rattle.lazy_plans.specs.Queue.{Right, Pending}
use Rattle.prefix_tree.specs.Order.{IsNoLater}
use Rattle.prefix_tree.specs.Entries.{queued_entries, prefixes}
use Rattle.prefix_tree.specs.declared.entry.Entry.{Entry}
use Rattle.prefix_plans.specs.Left.{KnownToGo, known_to_go}
use Rattle.prefix_plans.specs.EndStanding.{IsEndReady, all_outdated}
use Rattle.prefix_plans.specs.declared.front.Front.{Front}

-- the prefixes that wait
abbrev pub waiting_prefixes : Front → List (List ℕ)
waiting_prefixes x = prefixes x.tree.items (queued_entries x.queue)

-- the search, the states, the prefixes and the entries stand
abbrev pub PrefixFrontStands : {Set : Type 0} → View Set → CostToGo Set → Front → Type 0
PrefixFrontStands v f x = IsEndReady v f x.graph x.tree.items (queued_entries x.queue)

-- the entry is handed out first
pub record IsPrefixFirst (e : Entry) (es : List Entry) : Type 0 where
  pub some : 0 < length es
  pub first : e ≡ slice_index_or es 0 e
  pub order : All (IsNoLater e) es

-- How far the entry is from a plan, where its last state is ranked: by its bound, then by what is left, then by its number.
abbrev pub farness : Entry → ℕ
farness e = (e.bound.0 * (2 ^ 64 + 1) + (e.bound.0 - e.cost)) * 2 ^ 64 + e.ring.0

-- more than any entry is
abbrev pub farthest : ℕ
farthest = 2 ^ 128 * (2 ^ 64 + 1) * 2 ^ 64

-- how far the nearest entry is
abbrev pub nearest : List Entry → ℕ
nearest [] = farthest
nearest (e ∷ es) = min (farness e) (nearest es)

-- what is left to do until a plan comes or the search has to go on
abbrev pub prefix_work : KnownToGo → List Entry → ℕ
prefix_work known es = all_outdated known es * (farthest + 1) + nearest es

-- the old prefixes that wait, and the new ones: what pends is the same, and they stay right
pub record KeepsPending (y : System) (most : Option ℕ) (old new : List (List ℕ)) : Type 0 where
  pub right : Right y TopK most new
  pub stays : PendsAlike (Pending y TopK old) (Pending y TopK new)

-- the queue goes on: what pends is the same, and there is less to do
abbrev pub GoesOnByPrefix : {Set : Type 0} → View Set → CostToGo Set → Front → Front → Type 0
GoesOnByPrefix v f old new = (most : Option ℕ) → Right v.system TopK most (waiting_prefixes old)
    → KeepsPending v.system most (waiting_prefixes old) (waiting_prefixes new)
    × (prefix_work (known_to_go f) (queued_entries new.queue) < prefix_work (known_to_go f)
    (queued_entries old.queue))

-- the plan of the first entry is given, if it is cheap enough
abbrev pub GivesPrefixPlan : System → Entry → List (List ℕ) → List (List ℕ) → List ℕ → Type 0
GivesPrefixPlan y e old new p = (most : Option ℕ) → Right y TopK most old → e.cost ≤ top most → Right y TopK most new
    × Gave y TopK most (Pending y TopK old) (Pending y TopK new) p

abbrev pub OpensPrefix : {Set : Type 0} → View Set → CostToGo Set → Entry → Front → Front → Option (List ℕ) → Type 0
OpensPrefix v f e old new None = GoesOnByPrefix v f old new
OpensPrefix v f e old new (Some p) = GivesPrefixPlan v.system e (waiting_prefixes old) (waiting_prefixes new) p
