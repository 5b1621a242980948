use Rattle.task_system.proofs.StatesLaw.{states_law, states_differ}
use Rattle.symk_task.proofs.Starting.{start_law}
use Rattle.task_system.proofs.RunsLaw.{start_listed, leads_listed}
use Rattle.task_system.proofs.laws.states_are_all.Goals as goal

pub returns-clause-each : goal.returns-clause-each
returns-clause-each c = states_law

pub returns-clause-once : goal.returns-clause-once
returns-clause-once c = (λ task. states_differ task.variables)

pub returns-clause-initial : goal.returns-clause-initial
returns-clause-initial c = start_law

pub returns-clause-begun : goal.returns-clause-begun
returns-clause-begun c = start_listed

pub returns-clause-kept : goal.returns-clause-kept
returns-clause-kept c = leads_listed
