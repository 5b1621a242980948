-- The queue over plain entries, and what a turn does to it.
use Rattle.std.specs.Prelude.{◌≡◌, ℕ, suc, ◌+◌, ◌-◌, ◌*◌, ◌^◌, ◌<◌, ◌≤◌, ◌⊎◌, Bool, true, ◌&&◌, eqb, leb, cond, IsTrue, List, [], ◌∷◌, ◌++◌, length, Option, Some, None}
use Rattle.std.specs.List.{AllByRecursion}
use Rattle.task_system.specs.System.{State, System, Leads, RunsInSystem, IsSystemPlan, cost_in_system}
use Rattle.run_graph.specs.Reached.{ReachedAt, ToGoalAt, Useful}
use Rattle.plan_cuts.specs.Counts.{one_if, at_some, sum_over_operators, begins, hits}
use Rattle.plan_cuts.specs.EntryCuts.{cut_of}
use Rattle.plan_cuts.specs.declared.Cut.{Cut}

-- Head: a prefix grows backwards out of a set. Its cost and ring are those of the set, the operators stand between the set and the meeting state, and the last number is the cost of what follows that.
-- Tail: a suffix grows forwards from the state that the operators reach. Its cost and ring are those of that state.
pub data PlainEntry : Type 0 where
  Head : (State → Bool) → ℕ → ℕ → List ℕ → ℕ → PlainEntry
  Tail : ℕ → ℕ → List ℕ → PlainEntry

abbrev pub then_some : Option State → (State → Option State) → Option State
then_some None f = None
then_some (Some t) f = f t

-- the state that the operators lead to
abbrev pub reach : System → State → List ℕ → Option State
reach y s [] = Some s
reach y s (op ∷ p) = then_some (y.step op s) (λ t. reach y t p)

-- how many operators of cost 0 a list begins with
abbrev pub zeros : System → List ℕ → ℕ
zeros y [] = 0
zeros y (op ∷ p) = cond (eqb (y.cost op) 0) (suc (zeros y p)) 0

-- the operators of a list from the initial state to s, the last one first
abbrev pub Ends : System → List ℕ → State → Type 0
Ends y [] s = s ≡ y.initial
Ends y (op ∷ q) s = (t : State) × Leads y op t s × Ends y q t

-- a list of this cost with n operators of cost 0 at its end runs from the initial state to s
abbrev pub FwdIn : System → ℕ → ℕ → State → Type 0
FwdIn y c n s = (q : List ℕ) × Ends y q s × (cost_in_system y q ≡ c) × (zeros y q ≡ n)

-- a list of this cost with n operators of cost 0 at its beginning runs from s to a goal state
abbrev pub BwdIn : System → ℕ → ℕ → State → Type 0
BwdIn y c n s = (p : List ℕ) × (t : State) × RunsInSystem y s p t × IsTrue (y.goal t) × (cost_in_system y p ≡ c) × (zeros y p ≡ n)

-- layers of both sides, right below f and b
pub record Tables (y : System) (front back : ℕ → State → Bool) (f b : ℕ) : Type 0 where
  pub front_sound : (c : ℕ) (s : State) → c < f → front c s ≡ true → ReachedAt y c s
  pub front_all : (c : ℕ) (s : State) → c < f → Useful y s → ReachedAt y c s → front c s ≡ true
  pub back_sound : (c : ℕ) (s : State) → c < b → back c s ≡ true → ToGoalAt y c s
  pub back_all : (c : ℕ) (s : State) → c < b → Useful y s → ToGoalAt y c s → back c s ≡ true

-- the states from which the operator leads into the set, in the layer of the cost that is left
abbrev pub into : System → (ℕ → State → Bool) → (State → Bool) → ℕ → ℕ → State → Bool
into y front has cost k s = leb (y.cost k) cost && (front (cost - y.cost k) s && at_some (y.step k s) has)

-- the operator leads from the state reached into the layer of the cost that is left
abbrev pub onto : System → (ℕ → State → Bool) → ℕ → List ℕ → ℕ → Bool
onto y back cost ops k = leb (y.cost k) cost && at_some (reach y y.initial ops) (λ s. at_some (y.step k s) (back (cost - y.cost k)))

-- how often p extends the entry
abbrev pub entry_hits : System → PlainEntry → List ℕ → ℕ
entry_hits y (Head has cost ring ops after) p = hits y has cost (begins y ops after) 0 y.initial p
entry_hits y (Tail cost ring ops) p = one_if (begins y ops cost p)

abbrev pub total : System → List PlainEntry → List ℕ → ℕ
total y [] p = 0
total y (e ∷ es) p = entry_hits y e p + total y es p

-- how often p extends the child by operator k
abbrev pub child_hits : System → (ℕ → State → Bool) → (ℕ → State → Bool) → PlainEntry → List ℕ → ℕ → ℕ
child_hits y front back (Head has cost ring ops after) p k = hits y (into y front has cost k) (cost - y.cost k) (begins y (k ∷ ops) after) 0 y.initial p
child_hits y front back (Tail cost ring ops) p k = one_if (onto y back cost ops k && begins y (ops ++ k ∷ []) (cost - y.cost k) p)

-- how often p extends the suffix that begins where the prefix is whole
abbrev pub begun_hits : System → PlainEntry → List ℕ → ℕ
begun_hits y (Head has cost ring ops after) p = one_if (begins y ops after p && (eqb 0 cost && has y.initial))
begun_hits y (Tail cost ring ops) p = 0

-- what the layers give of an entry, and that the listed cost is its own
abbrev pub StandsOnLayers : System → ℕ → ℕ → ℕ → PlainEntry → Type 0
StandsOnLayers y f b listed (Head has cost ring ops after) = ((s : State) × (has s ≡ true) × FwdIn y cost ring s)
    × ((s : State) → has s ≡ true → ReachedAt y cost s)
    × ((s : State) → has s ≡ true → (m : State) × RunsInSystem y s ops m × ToGoalAt y after m)
    × (cost + cost_in_system y ops + after ≡ listed) × (cost < f) × (after < b)
StandsOnLayers y f b listed (Tail cost ring ops) = ((s : State) × RunsInSystem y y.initial ops s
    × BwdIn y cost ring s) × (cost_in_system y ops + cost ≡ listed) × (cost < b)

-- c is the child of e by operator k
abbrev pub IsChild : System → (ℕ → State → Bool) → (ℕ → State → Bool) → PlainEntry → ℕ → PlainEntry → Type 0
IsChild y front back (Head has cost ring ops after) k (Head has2 cost2 ring2 ops2 after2) = ((s : State) → has2 s ≡ into y front has cost k s) × (cost2 ≡ cost - y.cost k) × (ops2 ≡ k ∷ ops) × (after2 ≡ after) × ((s : State) × (has2 s ≡ true) × FwdIn y cost2 ring2 s) × ((s : State) (n : ℕ) → has2 s ≡ true → FwdIn y cost2 n s → ring2 ≤ n) × (k < y.operators)
IsChild y front back (Head has cost ring ops after) k (Tail cost2 ring2 ops2) = ⊥
IsChild y front back (Tail cost ring ops) k (Tail cost2 ring2 ops2) = (onto y back cost ops k ≡ true)
    × (cost2 ≡ cost - y.cost k) × (ops2 ≡ ops ++ k ∷ [])
    × ((s : State) × RunsInSystem y y.initial ops2 s × BwdIn y cost2 ring2 s)
    × ((s : State) (n : ℕ) → RunsInSystem y y.initial ops2 s → BwdIn y cost2 n s → ring2 ≤ n) × (k < y.operators)
IsChild y front back (Tail cost ring ops) k (Head has2 cost2 ring2 ops2 after2) = ⊥

-- c is the suffix that begins where the prefix of e is whole
abbrev pub IsBegun : System → PlainEntry → PlainEntry → Type 0
IsBegun y (Head has cost ring ops after) (Tail cost2 ring2 ops2) = (cost ≡ 0) × (has y.initial ≡ true)
    × (cost2 ≡ after) × (ops2 ≡ ops) × ((s : State) × RunsInSystem y y.initial ops2 s × BwdIn y cost2 ring2 s)
IsBegun y (Head has cost ring ops after) (Head has2 cost2 ring2 ops2 after2) = ⊥
IsBegun y (Tail cost ring ops) c = ⊥

abbrev pub FollowsEntry : System → (ℕ → State → Bool) → (ℕ → State → Bool) → PlainEntry → PlainEntry → Type 0
FollowsEntry y front back e c = ((k : ℕ) × IsChild y front back e k c) ⊎ IsBegun y e c

-- falls from each entry taken to the one taken next
abbrev pub height : PlainEntry → ℕ
height (Head has cost ring ops after) = 2 ^ 128 + cost * 2 ^ 64 + ring
height (Tail cost ring ops) = cost * 2 ^ 64 + ring

-- the operators in place, and one more once the prefix is whole
abbrev pub entry_weight : PlainEntry → ℕ
entry_weight (Head has cost ring ops after) = length ops
entry_weight (Tail cost ring ops) = length ops + 1

-- the suffix is whole
abbrev pub Done : System → PlainEntry → List ℕ → Type 0
Done y (Head has cost ring ops after) p = ⊥
Done y (Tail cost ring ops) p = (cost ≡ 0) × (p ≡ ops) × IsSystemPlan y ops

abbrev pub Open : System → PlainEntry → Type 0
Open y (Head has cost ring ops after) = Unit {0}
Open y (Tail cost ring ops) = (cost ≡ 0 → IsSystemPlan y ops → ⊥)

-- what one turn does to the queue
pub record Goes (y : System) (front back : ℕ → State → Bool) (old new : List PlainEntry) : Type 0 where
  pub taken : PlainEntry
  pub others : List PlainEntry
  pub pushed : List PlainEntry
  pub last : PlainEntry
  pub was : old ≡ others ++ taken ∷ []
  pub is : new ≡ others ++ (pushed ++ last ∷ [])
  pub unfinished : Open y taken
  pub each : AllByRecursion (FollowsEntry y front back taken) (pushed ++ last ∷ [])
  pub counts : (p : List ℕ) → total y (pushed ++ last ∷ []) p ≡ begun_hits y taken p + sum_over_operators y.operators (child_hits y front back taken p)
  pub falls : height last < height taken
  pub longer : entry_weight last ≡ entry_weight taken + 1

pub record GivesPlan (y : System) (front back : ℕ → State → Bool) (old new : List PlainEntry) (p : List ℕ) : Type 0 where
  pub taken : PlainEntry
  pub others : List PlainEntry
  pub pushed : List PlainEntry
  pub was : old ≡ others ++ taken ∷ []
  pub is : new ≡ others ++ pushed
  pub done : Done y taken p
  pub each : AllByRecursion (FollowsEntry y front back taken) pushed
  pub counts : (q : List ℕ) → total y pushed q ≡ sum_over_operators y.operators (child_hits y front back taken q)

-- what extends no entry but has a cut that isn't drawn counts too
abbrev pub places : System → ℕ → List PlainEntry → (Cut → Bool) → List ℕ → ℕ
places y b queue undrawn p = total y queue p + one_if (undrawn (cut_of y b p))

abbrev pub Owed : System → ℕ → ℕ → List PlainEntry → (Cut → Bool) → List ℕ → Type 0
Owed y b listed queue undrawn p = IsSystemPlan y p × ((listed < cost_in_system y p) ⊎ ((cost_in_system y p ≡ listed) × (places y b queue undrawn p ≡ 1)))

pub record Lawful (y : System) (front back : ℕ → State → Bool) (f b listed : ℕ) (queue : List PlainEntry) (undrawn : Cut → Bool) : Type 0 where
  pub tables : Tables y front back f b
  pub stands : AllByRecursion (StandsOnLayers y f b listed) queue
  pub once : (p : List ℕ) → IsSystemPlan y p → cost_in_system y p ≡ listed → places y b queue undrawn p ≤ 1
