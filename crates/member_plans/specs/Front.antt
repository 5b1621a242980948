-- What holds of prefixes, those that wait and those that were opened, between two turns.
use Rattle.std.specs.Prelude.{◌≡◌, ℕ, ◌+◌, ◌<◌, ◌≤◌, ◌^◌, IsTrue, All, List, [], ◌++◌, length, slice_index_or, Option, Some, None, IsSome, Result, Ok, Err}
use Rattle.std.specs.List.Sorted.{IsPermutation}
use Rattle.task_system.specs.System.{System}
use Rattle.space_api.specs.View.{View}
use Rattle.lazy_plans.specs.Law.{PendsAlike, MayStop, NoneLeft, top}
use Rattle.lazy_plans.specs.declared.stop.Stop.{Stop}
use Rattle.lazy_plans.specs.declared.stop.Stop.TheVariants.{CostRange}
use Rattle.cost_to_go.specs.declared.search.CostToGo.{CostToGo}
use Rattle.prefix_tree.specs.Tree.{path_at}
use Rattle.prefix_tree.specs.Entries.{queued_entries, prefixes}
use Rattle.prefix_tree.specs.declared.entry.Entry.{Entry}
use Rattle.prefix_plans.specs.Left.{KnownToGo}
use Rattle.prefix_plans.specs.EndStanding.{IsEndReady, all_outdated}
use Rattle.member_laws.specs.Nodes.{IsJoinedAtNode, CoversOpened, PendsNode}
use Rattle.member_plans.specs.Moves.{Serves}
use Rattle.member_plans.specs.Opened.{places_of_opened, keys_of, opened_of, AreOpened}
use Rattle.member_plans.specs.declared.front.Front.{Front}
use Rattle.member_plans.specs.declared.walk.Halt.{Halt}
use Rattle.member_plans.specs.declared.walk.Halt.TheVariants.{Due, Opens, Waits, Ends, OutOfRange}

-- the entries that wait, in the queue at member_work and in the other; the opened_places of the prefixes that were opened, and these prefixes
abbrev pub waiting_members : Front → List Entry
waiting_members x = queued_entries x.queue ++ queued_entries x.other

abbrev pub opened_places : Front → List ℕ
opened_places x = places_of_opened x.opened

abbrev pub opened : Front → List (List ℕ)
opened x = opened_of x.tree.items (opened_places x)

-- The search, the prefixes and the entries stand, the moves are those of the system, and what was opened is closed.
pub record IsSteady {Set : Type 0} (v : View Set) (f : CostToGo Set) (most : Option ℕ) (x : Front) : Type 0 where
  pub ready : IsEndReady v f x.graph x.tree.items (waiting_members x)
  pub serves : Serves x.moves v.system
  pub table : AreOpened v.system most x.tree.items (opened_places x) (keys_of x.opened)
  pub covers : CoversOpened v.system (opened x) (prefixes x.tree.items (waiting_members x))

-- what pends is the same
abbrev pub SamePends : System → Front → Front → Type 0
SamePends y old new = PendsAlike (PendsNode y (opened old)) (PendsNode y (opened new))

-- turns that gave no plan: all stands, what pends is the same, and what was opened was not forgotten
pub record FollowsTurns {Set : Type 0} (v : View Set) (f : CostToGo Set) (most : Option ℕ) (old new : Front) : Type 0 where
  pub steady : IsSteady v f most new
  pub same : SamePends v.system old new
  pub more : length (opened_places old) ≤ length (opened_places new)

-- No entry of ys has a lesser bound than the first of xs, and there is none where xs has none.
pub record IsAheadOf (xs ys : List Entry) : Type 0 where
  pub none : xs ≡ [] → ys ≡ []
  pub least : (e : Entry) → 0 < length xs → e ≡ slice_index_or xs 0 e → All (λ k. e.bound.0 ≤ k.bound.0) ys

-- the same entries wait, and all else but the queues is as it was
pub record Rearranged (old new : Front) : Type 0 where
  pub graph : new.graph ≡ old.graph
  pub moves : new.moves ≡ old.moves
  pub tree : new.tree ≡ old.tree
  pub opened : new.opened ≡ old.opened
  pub entries : IsPermutation (waiting_members old) (waiting_members new)

-- what is left to do until a prefix is opened or turns stop
abbrev pub member_work : KnownToGo → Front → ℕ
member_work known x = length (waiting_members x) + all_outdated known (waiting_members x)

-- the first entry of the queue at member_work is a plan that pends, and one of the cheapest
pub record IsDue (y : System) (most : Option ℕ) (x : Front) (e : Entry) : Type 0 where
  pub some : 0 < length (queued_entries x.queue)
  pub first : e ≡ slice_index_or (queued_entries x.queue) 0 e
  pub least : All (λ k. e.bound.0 ≤ k.bound.0) (waiting_members x)
  pub cheap : e.bound.0 ≤ top most
  pub plan : IsTrue e.at_goal
  pub fresh : ¬ IsJoinedAtNode y (opened x) (path_at x.tree.items e.node)

-- why turns stop
abbrev pub MembersHaltAt : System → KnownToGo → Option ℕ → Front → Front → Halt → Type 0
MembersHaltAt y known most old new (Due e) = IsDue y most new e
MembersHaltAt y known most old new Opens = (length (opened_places old) < length (opened_places new)) × (length (opened_places new) < 2 ^ 64)
MembersHaltAt y known most old new Waits = IsSome known.next
MembersHaltAt y known most old new Ends = NoneLeft y most (PendsNode y (opened new))
MembersHaltAt y known most old new OutOfRange = MayStop y most (PendsNode y (opened new)) CostRange

-- one turn: it halts so, or there is less to do
abbrev pub IsMemberTurn : System → KnownToGo → Option ℕ → Front → Front → Option Halt → Type 0
IsMemberTurn y known most old new None = member_work known new < member_work known old
IsMemberTurn y known most old new (Some halt) = MembersHaltAt y known most old new halt

-- what the turns of a call came to: a plan is due, no plan is left, or why they stopped
abbrev pub Stopped : System → Option ℕ → Front → Result (Option Entry) Stop → Type 0
Stopped y most x (Ok (Some e)) = IsDue y most x e
Stopped y most x (Ok None) = NoneLeft y most (PendsNode y (opened x))
Stopped y most x (Err stop) = MayStop y most (PendsNode y (opened x)) stop
