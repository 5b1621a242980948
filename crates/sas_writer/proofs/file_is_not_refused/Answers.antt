use Rattle.sas_writer.proofs.FileRows.{file_is_taken}
use Rattle.sas_writer.proofs.file_is_not_refused.Goals as goal

pub returns : goal.returns
returns c = file_is_taken
