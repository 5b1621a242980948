use Rattle.std.proofs.Common.{◌≡◌, ℕ, take, Contains}
use Rattle.task_system.specs.System.{State}
use Rattle.space_api.specs.View.{Preimage}
use Rattle.space_api.specs.Frames.{Stays}
use Rattle.mutex_use.proofs.standing.any_leads.Given as goal

abbrev pub invariant-operators : goal.invariant-operators
invariant-operators g l =
    let view = g.S.Space.view in
    record {
      task : (view l.space).task ≡ (view l.fn.space).task;
      stays : Stays (view l.fn.space) (view l.space);
      none : (op : ℕ) (s : State) → Contains (take l.i l.operators) op → ¬ Preimage (view l.fn.space) op l.to l.from s;
    }
