-- What is known of the variables once they are read.
use Rattle.std.specs.Prelude.{◌≤◌, List, length, All}
use Rattle.symk_task.specs.declared.parts.Variable.{Variable}
use Rattle.symk_task.specs.Variables.{range}

pub record Known (variables : List Variable) : Type 0 where
  pub few : length variables ≤ 65536
  pub small : All (λ v. range v ≤ 65536) variables
