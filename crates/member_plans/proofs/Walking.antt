-- How turns stop, and turns one after the other.
use Rattle.std.proofs.Common.{◌≡◌, ℕ, ◌+◌, ◌-◌, ◌<◌, ◌≤◌, ◌^◌, List, [], ◌++◌, length, Option, Some, None, Result, Ok, Err, IfOk, sym, subst, arith}
use Rattle.std.specs.List.{AllByRecursion}
use Rattle.std.specs.List.Sorted.{IsPermutation}
use Rattle.task_system.specs.System.{System}
use Rattle.space_api.specs.View.{View}
use Rattle.space_api.specs.Frames.{Stays as SameSets}
use Rattle.lazy_plans.specs.Law.{MayStop, NoneLeft, top}
use Rattle.lazy_plans.specs.declared.stop.Stop.TheVariants.{Memory}
use Rattle.lazy_plans.proofs.Given.{stays_trans}
use Rattle.cost_to_go.specs.declared.search.CostToGo.{CostToGo}
use Rattle.prefix_tree.specs.Entries.{queued_entries, prefixes}
use Rattle.prefix_tree.specs.declared.entry.Entry.{Entry}
use Rattle.prefix_tree.specs.declared.queue.Queue.{Queue}
use Rattle.prefix_plans.specs.Left.{KnownToGo}
use Rattle.prefix_plans.specs.EndChildren.{IsEndEntry}
use Rattle.prefix_plans.specs.EndStanding.{IsEndReady}
use Rattle.prefix_plans.specs.Leading.{DropsHopeless}
use Rattle.prefix_plans.proofs.Moving.{ready_stays}
use Rattle.prefix_plans.specs.declared.ranks.Ranks.{Ranks}
use Rattle.prefix_plans.proofs.Dearest.{bounds_past}
use Rattle.prefix_plans.proofs.Permuting.{permuted_each}
use Rattle.prefix_plans.proofs.Dropping.{drops_each}
use Rattle.member_laws.specs.Nodes.{CoversOpened, PendsNode}
use Rattle.member_laws.proofs.Pending as pending
use Rattle.member_plans.specs.Moves.{Serves}
use Rattle.member_plans.specs.Opened.{keys_of, AreOpened}
use Rattle.member_plans.specs.Front.{waiting_members, opened_places, opened, IsSteady, SamePends, FollowsTurns, Rearranged, MembersHaltAt, IsMemberTurn}
use Rattle.member_plans.specs.declared.front.Front.{Front}
use Rattle.member_plans.proofs.Ranging.{drops_cover}
use Rattle.member_plans.proofs.Beside.{beside_none, permuted_covers, permuted_work}
use Rattle.member_plans.specs.declared.walk.Halt.{Halt}
use Rattle.member_plans.specs.declared.walk.Halt.TheVariants.{Due, Opens, Waits, Ends, OutOfRange}

-- the queues alone are others
abbrev pub requeued : Front → Queue → Queue → Front
requeued x q o = record x { queue = q; other = o }

pub same_self : (y : System) (x : Front) → SamePends y x x
same_self y x p = ((λ h. h), (λ h. h))

pub follows_self : {Set : Type 0} (v : View Set) (f : CostToGo Set) (most : Option ℕ) (x : Front) → IsSteady v f most x → FollowsTurns v f most x x
follows_self v f most x z = record { steady = z; same = same_self v.system x; more = omega arith }

pub follows_requeued : {Set : Type 0} (v : View Set) (f : CostToGo Set) (most : Option ℕ) (x : Front) (q o : Queue)
    → IsSteady v f most x → AllByRecursion (IsEndEntry v f x.tree.items) (queued_entries q ++ queued_entries o)
    → CoversOpened v.system (opened x) (prefixes x.tree.items (queued_entries q ++ queued_entries o))
    → FollowsTurns v f most x (requeued x q o)
follows_requeued v f most x q o z each covers = record {
  steady = record {
    ready = record { alone = z.ready.alone; graph = z.ready.graph; tree = z.ready.tree; each = each };
    serves = z.serves;
    table = z.table;
    covers = covers;
  };
  same = same_self v.system x;
  more = omega arith;
}

-- the queues have the entries that they had
pub kept_follows : {Set : Type 0} (v : View Set) (f : CostToGo Set) (most : Option ℕ) (x : Front) (q o : Queue)
    → IsSteady v f most x → queued_entries q ++ queued_entries o ≡ waiting_members x → FollowsTurns v f most x (requeued x q o)
kept_follows v f most x q o z same = follows_requeued v f most x q o z
    (subst (AllByRecursion (IsEndEntry v f x.tree.items)) (sym same) z.ready.each)
    (subst (λ (es : List Entry). CoversOpened v.system (opened x) (prefixes x.tree.items es)) (sym same) z.covers)

-- the same, as the search and the space go on
pub steady_on : {Set : Type 0} (v w : View Set) (f h : CostToGo Set) (most : Option ℕ) (x : Front)
    → w.system ≡ v.system → IsEndReady w h x.graph x.tree.items (waiting_members x) → IsSteady v f most x → IsSteady w h most x
steady_on v w f h most x same ready z = record {
  ready = ready;
  serves = subst (Serves x.moves) (sym same) z.serves;
  table = subst (λ (y : System). AreOpened y most x.tree.items (opened_places x) (keys_of x.opened)) (sym same) z.table;
  covers = subst (λ (y : System). CoversOpened y (opened x) (prefixes x.tree.items (waiting_members x))) (sym same) z.covers;
}

pub steady_stays : {Set : Type 0} (v w : View Set) (f : CostToGo Set) (most : Option ℕ) (x : Front) → SameSets v w → IsSteady v f most x → IsSteady w f most x
steady_stays v w f most x s z = steady_on v w f f most x s.kept.system (ready_stays v w f x.graph x.tree.items (waiting_members x) s z.ready) z

-- one after the other
pub follows_then : {Set : Type 0} {v w : View Set} {f h : CostToGo Set} {most : Option ℕ} {x m z : Front}
    → w.system ≡ v.system → FollowsTurns v f most x m → FollowsTurns w h most m z → FollowsTurns w h most x z
follows_then {Set} {v} {w} {f} {h} {most} {x} {m} {z} on k l = record {
  steady = l.steady;
  same = stays_trans (PendsNode w.system (opened x)) (PendsNode w.system (opened m)) (PendsNode w.system (opened z))
      (subst (λ (y : System). SamePends y x m) (sym on) k.same) l.same;
  more = omega (arith, k.more, l.more);
}

-- the first turns opened something or not
pub halts_after : (y : System) (known : KnownToGo) (most : Option ℕ) (x m z : Front)
    → length (opened_places x) ≤ length (opened_places m) → (halt : Halt) → MembersHaltAt y known most m z halt
    → MembersHaltAt y known most x z halt
halts_after y known most x m z le (Due e) h = h
halts_after y known most x m z le Opens h = (omega (arith, le, h.0), h.1)
halts_after y known most x m z le Waits h = h
halts_after y known most x m z le Ends h = h
halts_after y known most x m z le OutOfRange h = h

-- no entry is left
pub empty_ends : {Set : Type 0} (v : View Set) (f : CostToGo Set) (most : Option ℕ) (x : Front) → IsSteady v f most x
    → waiting_members x ≡ [] → NoneLeft v.system most (PendsNode v.system (opened x))
empty_ends v f most x z none = pending.empty_leaves v.system most (opened x) z.serves.lists
    (subst (λ (es : List Entry). CoversOpened v.system (opened x) (prefixes x.tree.items es)) none z.covers)

-- each entry is dearer than what is wanted
pub past_ends : {Set : Type 0} (v : View Set) (f : CostToGo Set) (most : Option ℕ) (m : ℕ) (x : Front) → most ≡ Some m
    → IsSteady v f most x → AllByRecursion (λ (k : Entry). top most < k.bound.0) (waiting_members x)
    → NoneLeft v.system most (PendsNode v.system (opened x))
past_ends v f None m x is z dear = absurd (none_some is)
  where
    none_some : None ≡ Some m → ⊥
    none_some e = cc
past_ends v f (Some n) m x is z dear = pending.dear_leaves v.system (opened x) (prefixes x.tree.items (waiting_members x))
    z.serves.lists z.covers n (n + 1) (bounds_past v f x.tree.items n (waiting_members x) z.ready.each dear) (omega arith)

-- all entries came into the one queue
module _ {Set : Type 0} (v : View Set) (f : CostToGo Set) (most : Option ℕ) (x : Front) (q : Queue)
    (joined : IsPermutation (waiting_members x) (queued_entries q)) (z : IsSteady v f most x) where
  pub joined_each : AllByRecursion (IsEndEntry v f x.tree.items) (queued_entries q)
  joined_each = permuted_each (IsEndEntry v f x.tree.items) (waiting_members x) (queued_entries q) joined z.ready.each

  pub joined_covers : CoversOpened v.system (opened x) (prefixes x.tree.items (queued_entries q))
  joined_covers = permuted_covers v.system x.tree.items (opened x) (waiting_members x) (queued_entries q) joined z.covers

  -- first ones from which no plan goes on were taken out, by a space that is as before
  pub left_follows : (w : View Set) (r o : Queue) → SameSets v w → queued_entries o ≡ []
      → DropsHopeless v.system x.tree.items (queued_entries q) (queued_entries r) → FollowsTurns w f most x (requeued x r o)
  left_follows w r o s none d =
      let all : queued_entries r ++ queued_entries o ≡ queued_entries r = beside_none (queued_entries r) (queued_entries o) none in
      let here = subst (AllByRecursion (IsEndEntry v f x.tree.items)) (sym all) (drops_each (IsEndEntry v f x.tree.items) d joined_each) in
      let kept = subst (λ (es : List Entry). CoversOpened v.system (opened x) (prefixes x.tree.items es)) (sym all)
      (drops_cover v.system x.tree.items (opened x) (queued_entries q) (queued_entries r) d joined_covers) in
      record {
        steady = steady_stays v w f most (requeued x r o) s (follows_requeued v f most x r o z here kept).steady;
        same = same_self w.system x;
        more = omega arith;
      }

-- more ranks are kept
abbrev pub reranked : Front → Ranks → Front
reranked x r = record x { ranks = r }

pub reranked_follows : {Set : Type 0} (v : View Set) (f : CostToGo Set) (most : Option ℕ) (x z : Front) (r : Ranks)
    → FollowsTurns v f most x z → FollowsTurns v f most x (reranked z r)
reranked_follows v f most x z r k = record {
  steady = record { ready = k.steady.ready; serves = k.steady.serves; table = k.steady.table; covers = k.steady.covers };
  same = k.same;
  more = k.more;
}

-- the same entries wait
module _ {Set : Type 0} (v : View Set) (f : CostToGo Set) (most : Option ℕ) (x z : Front) (k : Rearranged x z) where
  -- the new queues beside all else that is old
  abbrev mixed : Front
  mixed = record z { graph = x.graph; moves = x.moves; tree = x.tree; opened = x.opened }

  is_mixed : mixed ≡ z
  is_mixed i = record z { graph = sym k.graph i; moves = sym k.moves i; tree = sym k.tree i; opened = sym k.opened i }

  pub rearranged_follows : IsSteady v f most x → FollowsTurns v f most x z
  rearranged_follows s = subst (FollowsTurns v f most x) is_mixed (record {
    steady = record {
      ready = record {
        alone = s.ready.alone;
        graph = s.ready.graph;
        tree = s.ready.tree;
        each =
            permuted_each (IsEndEntry v f x.tree.items) (waiting_members x) (waiting_members z) k.entries s.ready.each;
      };
      serves = s.serves;
      table = s.table;
      covers = permuted_covers v.system x.tree.items (opened x) (waiting_members x) (waiting_members z) k.entries s.covers;
    };
    same = same_self v.system x;
    more = omega arith;
  })

-- a turn after the queues were rearranged
pub turned_on : (y : System) (known : KnownToGo) (most : Option ℕ) (x m z : Front) → IsPermutation (waiting_members x) (waiting_members m)
    → length (opened_places x) ≤ length (opened_places m) → (o : Option Halt) → IsMemberTurn y known most m z o
    → IsMemberTurn y known most x z o
turned_on y known most x m z same le None h = omega (arith, h, permuted_work known (waiting_members x) (waiting_members m) same)
turned_on y known most x m z same le (Some halt) h = halts_after y known most x m z le halt h

pub if_turned : {E : Type 0} (y : System) (known : KnownToGo) (most : Option ℕ) (x m z : Front)
    → IsPermutation (waiting_members x) (waiting_members m) → length (opened_places x) ≤ length (opened_places m) → (r : Result (Option Halt) E)
    → IfOk r (IsMemberTurn y known most m z) → IfOk r (IsMemberTurn y known most x z)
if_turned y known most x m z same le (Ok o) h = turned_on y known most x m z same le o h
if_turned y known most x m z same le (Err e) h = tt

-- the search went on
pub follows_on : {Set : Type 0} (v w : View Set) (f h : CostToGo Set) (most : Option ℕ) (x z : Front)
    → w.system ≡ v.system → IsEndReady w h z.graph z.tree.items (waiting_members z)
    → FollowsTurns v f most x z → FollowsTurns w h most x z
follows_on v w f h most x z same ready k = record {
  steady = steady_on v w f h most z same ready k.steady;
  same = subst (λ (y : System). SamePends y x z) (sym same) k.same;
  more = k.more;
}

-- out of memory says nothing of what pends
pub memory_stops : (y : System) (most : Option ℕ) (pends : List ℕ → Type 0) → MayStop y most pends Memory
memory_stops y None pends = tt
memory_stops y (Some c) pends = tt

-- less is left, by a step of the search or by a prefix that was opened
pub opened_fewer : (n a b : ℕ) → a < b → b < 2 ^ 64 → n + (2 ^ 64 - b) < n + (2 ^ 64 - a)
opened_fewer n a b lt fits = omega (arith, lt, fits)

pub step_fewer : (m n a b : ℕ) → m < n → a ≤ b → m + (2 ^ 64 - b) < n + (2 ^ 64 - a)
step_fewer m n a b lt le = omega (arith, lt, le)
