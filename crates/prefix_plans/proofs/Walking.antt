-- How turns stop, and turns one after the other.
use Rattle.std.proofs.Common.{◌≡◌, ℕ, ◌+◌, ◌<◌, ◌≤◌, ◌^◌, inr, List, Option, Some, None, Result, Ok, Err, IfOk, sym, ap, subst, arith}
use Rattle.std.specs.List.{AllByRecursion}
use Rattle.symk_task.specs.declared.parts.Mode.TheVariants.{TopK}
use Rattle.task_system.specs.System.{System}
use Rattle.space_api.specs.View.{View}
use Rattle.space_api.specs.Frames as frames
use Rattle.lazy_plans.specs.Law.{Turned, top}
use Rattle.lazy_plans.specs.declared.stop.Stop.{Stop}
use Rattle.lazy_plans.specs.declared.stop.Stop.TheVariants.{Memory, CostRange}
use Rattle.lazy_plans.proofs.Given.{turned_from, stays_trans}
use Rattle.cost_to_go.specs.Standing.{next_key_of}
use Rattle.cost_to_go.specs.declared.search.CostToGo.{CostToGo}
use Rattle.lazy_plans.specs.Queue.{Right, Pending}
use Rattle.lazy_plans.proofs.Shells.{memory_stops}
use Rattle.lazy_plans.proofs.Turns as turns
use Rattle.prefix_tree.specs.Entries.{queued_entries}
use Rattle.prefix_tree.specs.declared.entry.Entry.{Entry}
use Rattle.prefix_tree.specs.declared.queue.Queue.{Queue}
use Rattle.prefix_tree.proofs.Entries.{first_is}
use Rattle.prefix_plans.specs.Left.{KnownToGo, known_to_go}
use Rattle.prefix_plans.specs.EndChildren.{IsEndEntry}
use Rattle.prefix_plans.proofs.Moving.{ready_stays}
use Rattle.prefix_plans.proofs.Dearest.{bounds_past, something_waits}
use Rattle.prefix_plans.specs.Standing.{waiting_prefixes, PrefixFrontStands, IsPrefixFirst, KeepsPending}
use Rattle.prefix_plans.specs.declared.front.Front.{Front}
use Rattle.prefix_plans.specs.Turned.{Acts, IsPrefixTurn, HaltsAt}
use Rattle.prefix_plans.specs.declared.walk.Halt.{Halt}
use Rattle.prefix_plans.specs.declared.walk.Halt.TheVariants.{Gives, Waits, Ends, OutOfRange}
use Rattle.prefix_plans.proofs.Ranging.{keeps_all}

pub keeps_same : (y : System) (most : Option ℕ) (old new : List (List ℕ)) → Right y TopK most old → new ≡ old → KeepsPending y most old new
keeps_same y most old new right same = subst (KeepsPending y most old) (sym same) (keeps_all y most old right)

pub keeps_trans : {y : System} {most : Option ℕ} {a b c : List (List ℕ)} → KeepsPending y most a b → KeepsPending y most b c → KeepsPending y most a c
keeps_trans {y} {most} {a} {b} {c} k h = record {
  right = h.right;
  stays = stays_trans (Pending y TopK a)
      (Pending y TopK b) (Pending y TopK c) k.stays h.stays;
}

-- each entry is dearer than what is wanted
pub past_ends : {Set : Type 0} (v : View Set) (f : CostToGo Set) (known : KnownToGo) (most : Option ℕ) (m : ℕ) (x : Front)
    → most ≡ Some m → PrefixFrontStands v f x → AllByRecursion (λ (k : Entry). top most < k.bound.0) (queued_entries x.queue)
    → Right v.system TopK most (waiting_prefixes x)
    → HaltsAt v.system known most (waiting_prefixes x) (waiting_prefixes x) Ends
past_ends v f known None m x is z dear right = absurd (none_some is)
  where
    none_some : None ≡ Some m → ⊥
    none_some e = cc
past_ends v f known (Some n) m x is z dear right = (
  keeps_all v.system (Some n) (waiting_prefixes x) right,
  turns.past v.system TopK n (n + 1) (waiting_prefixes x) (bounds_past v f x.tree.items n (queued_entries x.queue) z.each dear) (omega arith),
)

-- what was done with the first entry is a turn
module _ {Set : Type 0} (v : View Set) (f : CostToGo Set) (most : Option ℕ) (e : Entry) (x w : Front)
    (z : PrefixFrontStands v f x) (first : IsPrefixFirst e (queued_entries x.queue)) (cheap : e.bound.0 ≤ top most)
    (range : top most < 2 ^ 64) (right : Right v.system TopK most (waiting_prefixes x)) where
  turn_acts : (o : Option Halt) → Acts v f e x w o → IsPrefixTurn v.system (known_to_go f) most x w o
  turn_acts None h = h most right
  turn_acts (Some (Gives p)) h =
      let k = first_is (IsEndEntry v f x.tree.items) (queued_entries x.queue) e first.some first.first z.each in
      h most right (omega (arith, k.least, cheap))
  turn_acts (Some Waits) h = (
    keeps_same v.system most (waiting_prefixes x) (waiting_prefixes w) right (ap waiting_prefixes h.0),
    something_waits
        (next_key_of f) e.cost e.bound.0 (top most) cheap range (λ lt. h.1 (inr lt)),
  )
  turn_acts (Some Ends) h = absurd h
  turn_acts (Some OutOfRange) h = absurd h

  pub acts_ok : {E : Type 0} (r : Result (Option Halt) E) → IfOk r (Acts v f e x w) → IfOk r (IsPrefixTurn v.system (known_to_go f) most x w)
  acts_ok (Ok o) h = turn_acts o h
  acts_ok (Err u) h = h

-- after turns that went on
module _ {y : System} {most : Option ℕ} {a b : List (List ℕ)} (known : KnownToGo) (c : List (List ℕ)) (keeps : KeepsPending y most a b) where
  turned : (r : Result (Option (List ℕ)) Stop) → Turned y TopK most (Pending y TopK b) (Pending y TopK c) r
      → Turned y TopK most (Pending y TopK a) (Pending y TopK c) r
  turned r h = turned_from y TopK most (Pending y TopK a) (Pending y TopK b) (Pending y TopK c) r keeps.stays h

  halts_after : (halt : Halt) → HaltsAt y known most b c halt → HaltsAt y known most a c halt
  halts_after (Gives p) h = (h.0, turned (Ok (Some p)) h.1)
  halts_after Waits h = (keeps_trans keeps h.0, h.1)
  halts_after Ends h = (keeps_trans keeps h.0, (turned (Ok None) (h.1, h.0.stays)).0)
  halts_after OutOfRange h = (keeps_trans keeps h.0, (turned (Err CostRange) (h.1, h.0.stays)).0)

-- the same, of turns whose system is known to be the same
pub halts_same : {x y : System} {most : Option ℕ} {a b : List (List ℕ)} (known : KnownToGo) (c : List (List ℕ))
    (halt : Halt) → x ≡ y → KeepsPending y most a b → HaltsAt x known most b c halt → HaltsAt y known most a c halt
halts_same {x} {y} {most} {a} {b} known c halt same keeps h = halts_after known c keeps halt (subst (λ (z : System). HaltsAt z known most b c halt) same h)

-- the queue has other entries, and the space other sets
pub ready_left : {Set : Type 0} (v w : View Set) (f : CostToGo Set) (x : Front) (q : Queue) → frames.Stays v w
    → PrefixFrontStands v f x → (AllByRecursion (IsEndEntry v f x.tree.items) (queued_entries x.queue)
    → AllByRecursion (IsEndEntry v f x.tree.items) (queued_entries q)) → PrefixFrontStands w f (record x { queue = q })
ready_left v w f x q stays z each = ready_stays v w f x.graph x.tree.items (queued_entries q) stays
    (record { alone = z.alone; graph = z.graph; tree = z.tree; each = each z.each })

-- memory was refused
pub law_stops : {y : System} {most : Option ℕ} {old new : List (List ℕ)} → KeepsPending y most old new
    → Turned y TopK most (Pending y TopK old) (Pending y TopK new) (Err Memory)
law_stops {y} {most} {old} {new} k = (memory_stops y most (Pending y TopK old), k.stays)
