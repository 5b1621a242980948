use Rattle.task_system.proofs.ListsLaw.{listed_law, range_law, dearer_law}
use Rattle.task_system.proofs.laws.ends_are_the_tasks.Goals as goal

pub returns-clause-all_listed : goal.returns-clause-all_listed
returns-clause-all_listed c = listed_law

pub returns-clause-all_in_range : goal.returns-clause-all_in_range
returns-clause-all_in_range c = range_law

pub returns-clause-dearer : goal.returns-clause-dearer
returns-clause-dearer c = dearer_law
