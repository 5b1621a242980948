use Rattle.symk_task.specs.Variables.{IsState}
use Rattle.run_tests.proofs.pairs.each_on_a_walk.Given as goal

abbrev pub invariant-walk : goal.invariant-walk
invariant-walk l = IsState l.task l.state
