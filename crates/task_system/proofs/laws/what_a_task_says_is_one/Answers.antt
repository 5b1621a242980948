use Rattle.symk_task.proofs.Starting.{one_initial}
use Rattle.symk_task.proofs.OneState.{one_state}
use Rattle.symk_task.proofs.Running.{one_end, one_trace}
use Rattle.task_system.proofs.laws.what_a_task_says_is_one.Goals as goal

pub returns-clause-initial : goal.returns-clause-initial
returns-clause-initial c = one_initial

pub returns-clause-successor : goal.returns-clause-successor
returns-clause-successor c = λ task s a t u state one other. one_state task s t u a state one other

pub returns-clause-end : goal.returns-clause-end
returns-clause-end c = one_end

pub returns-clause-trace : goal.returns-clause-trace
returns-clause-trace c = one_trace
