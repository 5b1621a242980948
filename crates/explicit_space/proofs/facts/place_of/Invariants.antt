use Rattle.std.proofs.Common.{◌≡◌, ◌≤◌, take}
use Rattle.std.specs.List.{count_by}
use Rattle.symk_task.specs.Variables.{is_base}
use Rattle.explicit_space.proofs.facts.place_of.Given as goal

abbrev pub invariant-variables : goal.invariant-variables
invariant-variables l = record {
  counted : l.place ≡ count_by is_base (take l.i l.variables);
  few : l.place ≤ l.i;
}
