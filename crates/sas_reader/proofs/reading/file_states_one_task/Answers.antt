use Rattle.sas_reader.proofs.Whole.{one_task}
use Rattle.sas_reader.proofs.reading.file_states_one_task.Goals as goal

pub returns : goal.returns
returns c = one_task
