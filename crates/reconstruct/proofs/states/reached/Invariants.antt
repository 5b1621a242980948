use Rattle.std.proofs.Common.{take}
use Rattle.symk_task.specs.Variables.{IsState}
use Rattle.task_system.specs.System.{RunsInSystem}
use Rattle.reconstruct.proofs.states.reached.Given as goal

abbrev pub invariant-operators : goal.invariant-operators
invariant-operators g l =
    let v = g.S.Space.view l.space in
    record {
      runs : RunsInSystem v.system v.system.initial (take l.op-index l.operators) l.state;
      state : IsState v.task l.state;
    }
