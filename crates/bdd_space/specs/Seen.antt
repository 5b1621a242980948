-- What a space over diagrams tells.
use Rattle.std.specs.Prelude.{◌≡◌, ℕ, ◌-◌, List, length, is_some}
use Rattle.bdd_table.specs.Collected.{AreReached}
use Rattle.space_api.specs.View.{View}
use Rattle.task_system.specs.Computed.{system_of}
use Rattle.bdd_space.specs.Slots.{set_at}
use Rattle.bdd_space.specs.Symbolic.{Symbolic, in_set, symbolic_roots}

-- A set is valid where its place has an Id, and has the states that the Id has. The two constants are no nodes.
abbrev pub seen : Symbolic → View ℕ
seen e = record {
  task = e.task;
  system = system_of e.task;
  valid = λ a. is_some (set_at e.sets a);
  has = λ a. in_set e.order e.nodes (set_at e.sets a);
  held = length e.nodes - 2;
  last = e.last;
}

-- the space needs as many nodes as its valid sets and its own Ids reach
abbrev pub Needs : Symbolic → ℕ → Type 0
Needs e n = (ids : List ℕ) × AreReached e.nodes (symbolic_roots e) ids × (n ≡ length ids)
