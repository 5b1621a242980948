use Rattle.std.proofs.Common.{subst}
use Rattle.symk_task.specs.Variables.{IsState}
use Rattle.task_system.specs.System.{State, System}
use Rattle.task_system.proofs.StatesLaw.{states_law}
use Rattle.space_api.proofs.Listing.{reached_listed}
use Rattle.space_api.specs.States.{IsReached}
use Rattle.member_plans.specs.Moves.{Serves}
use Rattle.member_plans.specs.declared.moves.Moves.{Moves}
use Rattle.task_system.specs.System.{Listed}
use Rattle.member_plans.proofs.moves.Moves.make_marks.Goals as goal

state_of : (m : Moves) (y : System) → Serves m y → (s : State) → IsReached y s → IsState m.task.now s
state_of m y z s r = (states_law m.task.now s).1 (subst (λ (x : System). Listed x.states s) z.system (reached_listed y z.lists r.0 s r.1))

pub closed_by-requires-clause-state : goal.closed_by-requires-clause-state
closed_by-requires-clause-state c = state_of c.args.self.now c.requires.0 c.requires.1 c.args.state.now c.requires.2

pub set_of-requires-clause-state : goal.set_of-requires-clause-state
set_of-requires-clause-state c = state_of c.args.self.now c.requires.0 c.requires.1 c.args.state.now c.requires.2
