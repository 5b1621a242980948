use Rattle.task_system.proofs.ListsLaw.{right_form, right_law}
use Rattle.task_system.proofs.laws.right_lists_are_the_tasks.Goals as goal

pub returns-clause-right : goal.returns-clause-right
returns-clause-right c = right_law

pub returns-clause-one_definition : goal.returns-clause-one_definition
returns-clause-one_definition c = right_form
