-- What a space tells: its task and the task's system, which sets are valid, and which states each has; and how many nodes it
-- holds, and how many it needed after it last collected.
use Rattle.std.specs.Prelude.{◌≡◌, ℕ, Bool, IsTrue, IsFalse, ◌⊎◌}
use Rattle.symk_task.specs.declared.parts.Fact.{Fact}
use Rattle.symk_task.specs.declared.parts.TaskParts.{TaskParts}
use Rattle.symk_task.specs.Steps.{Holds}
use Rattle.task_system.specs.System.{State, System, Leads, Listed}

pub record View (Set : Type 0) : Type 0 where
  pub task : TaskParts
  pub system : System
  pub valid : Set → Bool
  pub has : Set → State → Bool
  pub held : ℕ
  pub last : ℕ

-- the set may be used
abbrev pub Valid : {Set : Type 0} → View Set → Set → Type 0
Valid v a = IsTrue (v.valid a)

-- the state is one of the set
abbrev pub Has : {Set : Type 0} → View Set → Set → State → Type 0
Has v a s = IsTrue (v.has a s)

-- a state of the system is one of the set
abbrev pub HasMember : {Set : Type 0} → View Set → Set → Type 0
HasMember v a = (s : State) × Listed v.system.states s × Has v a s

-- no state is one of the set
abbrev pub IsEmpty : {Set : Type 0} → View Set → Set → Type 0
IsEmpty v a = (s : State) → IsFalse (v.has a s)

-- the two sets have the same states
abbrev pub HasSame : {Set : Type 0} → View Set → Set → Set → Type 0
HasSame v a b = (s : State) → v.has a s ≡ v.has b s

-- the goal states of a
abbrev pub GoalIn : {Set : Type 0} → View Set → Set → State → Type 0
GoalIn v a s = Has v a s × IsTrue (v.system.goal s)

-- the states of a where the fact holds
abbrev pub FactIn : {Set : Type 0} → View Set → Fact → Set → State → Type 0
FactIn v fact a s = Has v a s × Holds v.task s fact

-- the states of a or of b
abbrev pub Unites : {Set : Type 0} → View Set → Set → Set → State → Type 0
Unites v a b s = Has v a s ⊎ Has v b s

-- the states of a that are in b
abbrev pub Meets : {Set : Type 0} → View Set → Set → Set → State → Type 0
Meets v a b s = Has v a s × Has v b s

-- the states of a that are not in b
abbrev pub Lacks : {Set : Type 0} → View Set → Set → Set → State → Type 0
Lacks v a b s = Has v a s × IsFalse (v.has b s)

-- the operator leads from a state of a to s
abbrev pub Image : {Set : Type 0} → View Set → ℕ → Set → State → Type 0
Image v op a s = (t : State) × Has v a t × Leads v.system op t s

-- an operator of this cost leads from a state of a to s
abbrev pub CostImage : {Set : Type 0} → View Set → ℕ → Set → State → Type 0
CostImage v cost a s = (op : ℕ) × (v.system.cost op ≡ cost) × Image v op a s

-- s is within the other set, and the operator leads from it to a state of a
abbrev pub Preimage : {Set : Type 0} → View Set → ℕ → Set → Set → State → Type 0
Preimage v op a within s = Has v within s × ((t : State) × Has v a t × Leads v.system op s t)

-- s is within the other set, and an operator of this cost leads from it to a state of a
abbrev pub CostPreimage : {Set : Type 0} → View Set → ℕ → Set → Set → State → Type 0
CostPreimage v cost a within s = Has v within s × ((op : ℕ) × (v.system.cost op ≡ cost) × ((t : State) × Has v a t × Leads v.system op s t))
