-- What turns do, and why they stop.
use Rattle.std.specs.Prelude.{◌≡◌, ℕ, ◌+◌, ◌<◌, ◌≤◌, List, Option, Some, None, IsSome}
use Rattle.symk_task.specs.declared.parts.Mode.TheVariants.{TopK}
use Rattle.task_system.specs.System.{System}
use Rattle.space_api.specs.View.{View}
use Rattle.lazy_plans.specs.Law.{Gave, MayStop, NoneLeft}
use Rattle.lazy_plans.specs.declared.stop.Stop.TheVariants.{CostRange}
use Rattle.cost_to_go.specs.declared.search.CostToGo.{CostToGo}
use Rattle.lazy_plans.specs.Queue.{Right, Pending}
use Rattle.prefix_tree.specs.Entries.{queued_entries}
use Rattle.prefix_tree.specs.declared.entry.Entry.{Entry}
use Rattle.prefix_plans.specs.Left.{KnownToGo, known_to_go}
use Rattle.prefix_plans.specs.EndChildren.{IsOutdated}
use Rattle.prefix_plans.specs.Standing.{waiting_prefixes, GoesOnByPrefix, GivesPrefixPlan, KeepsPending, prefix_work}
use Rattle.prefix_plans.specs.declared.front.Front.{Front}
use Rattle.prefix_plans.specs.declared.walk.Halt.{Halt}
use Rattle.prefix_plans.specs.declared.walk.Halt.TheVariants.{Gives, Waits, Ends, OutOfRange}

-- What is done with the first entry: the queue goes on, its plan is given, or no more is known than it says.
abbrev pub Acts : {Set : Type 0} → View Set → CostToGo Set → Entry → Front → Front → Option Halt → Type 0
Acts v f e old new None = GoesOnByPrefix v f old new
Acts v f e old new (Some (Gives p)) = GivesPrefixPlan v.system e (waiting_prefixes old) (waiting_prefixes new) p
Acts v f e old new (Some Waits) = (new ≡ old) × ¬ IsOutdated (known_to_go f) e
Acts v f e old new (Some Ends) = ⊥
Acts v f e old new (Some OutOfRange) = ⊥

-- The old prefixes that wait, and the new ones: what pends afterwards, why turns stop, and that the queue stays right.
abbrev pub HaltsAt : System → KnownToGo → Option ℕ → List (List ℕ) → List (List ℕ) → Halt → Type 0
HaltsAt y known most old new (Gives p) = Right y TopK most new × Gave y TopK most (Pending y TopK old) (Pending y TopK new) p
HaltsAt y known most old new Waits = KeepsPending y most old new × IsSome known.next
HaltsAt y known most old new Ends = KeepsPending y most old new × NoneLeft y most (Pending y TopK old)
HaltsAt y known most old new OutOfRange = KeepsPending y most old new × MayStop y most (Pending y TopK old) CostRange

-- one turn: it halts so, or there is less to do
abbrev pub IsPrefixTurn : System → KnownToGo → Option ℕ → Front → Front → Option Halt → Type 0
IsPrefixTurn y known most old new None = KeepsPending y most (waiting_prefixes old) (waiting_prefixes new)
    × (prefix_work known (queued_entries new.queue) < prefix_work known (queued_entries old.queue))
IsPrefixTurn y known most old new (Some halt) = HaltsAt y known most (waiting_prefixes old) (waiting_prefixes new) halt

-- how many steps a turn is
abbrev pub CountsPrefixTurn : ℕ → ℕ → Option Halt → Type 0
CountsPrefixTurn old new None = new ≡ old + 1
CountsPrefixTurn old new (Some (Gives p)) = new ≡ old + 1
CountsPrefixTurn old new (Some Waits) = new ≡ old
CountsPrefixTurn old new (Some Ends) = old ≤ new
CountsPrefixTurn old new (Some OutOfRange) = old ≤ new
