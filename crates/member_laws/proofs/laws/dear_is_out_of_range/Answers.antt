use Rattle.member_laws.proofs.Pending.{dear_out}
use Rattle.member_laws.proofs.laws.dear_is_out_of_range.Goals as goal

pub returns : goal.returns
returns c = λ y bound opened queue e p lists covers all dear cheap inside plan on. dear_out y opened queue lists covers bound e p all dear cheap inside plan on
