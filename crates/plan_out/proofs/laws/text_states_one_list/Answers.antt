use Rattle.plan_out.proofs.WholeText.{one_list}
use Rattle.plan_out.proofs.laws.text_states_one_list.Goals as goal

pub returns : goal.returns
returns c = one_list
