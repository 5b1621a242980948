-- How the shape of a line is printed.
use Rattle.std.specs.Prelude.{ℕ, List, codes}
use Rattle.sas_reader.specs.declared.fault.Shape.{Shape}
use Rattle.sas_reader.specs.declared.fault.Shape.TheVariants.{BeginVersion, Three, EndVersion, BeginMetric, Metric, EndMetric, Count, BeginVariable, Name, Layer, Range, EndVariable, BeginMutex, Fact, EndMutex, BeginState, Value, EndState, BeginGoal, EndGoal, BeginOperator, Effect, Cost, EndOperator, BeginRule, Head, EndRule, Blank}

-- the word for the shape
unfoldable pub printed : Shape → List ℕ
printed BeginVersion = codes "begin_version"
printed Three = codes "3"
printed EndVersion = codes "end_version"
printed BeginMetric = codes "begin_metric"
printed Metric = codes "metric"
printed EndMetric = codes "end_metric"
printed Count = codes "count"
printed BeginVariable = codes "begin_variable"
printed Name = codes "name"
printed Layer = codes "layer"
printed Range = codes "range"
printed EndVariable = codes "end_variable"
printed BeginMutex = codes "begin_mutex_group"
printed Fact = codes "fact"
printed EndMutex = codes "end_mutex_group"
printed BeginState = codes "begin_state"
printed Value = codes "value"
printed EndState = codes "end_state"
printed BeginGoal = codes "begin_goal"
printed EndGoal = codes "end_goal"
printed BeginOperator = codes "begin_operator"
printed Effect = codes "effect"
printed Cost = codes "cost"
printed EndOperator = codes "end_operator"
printed BeginRule = codes "begin_rule"
printed Head = codes "head"
printed EndRule = codes "end_rule"
printed Blank = codes "blank line"
