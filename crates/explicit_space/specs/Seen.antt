-- What an explicit space tells. It has no nodes.
use Rattle.std.specs.Prelude.{ℕ}
use Rattle.space_api.specs.View.{View}
use Rattle.task_system.specs.Computed.{system_of}
use Rattle.explicit_space.specs.Explicit.{Explicit, explicit_set_at, is_there, in_explicit_set}

abbrev pub explicit_view : Explicit → View ℕ
explicit_view e = record {
  task = e.task;
  system = system_of e.task;
  valid = λ a. is_there (explicit_set_at e.sets a);
  has = λ a. in_explicit_set (explicit_set_at e.sets a);
  held = 0;
  last = 0;
}
