use Rattle.stubborn_sets.proofs.Moving.{exchanged}
use Rattle.stubborn_sets.proofs.laws.neighbours_may_be_exchanged.Goals as goal

pub returns : goal.returns
returns c y a b before later s m t lists listed commute to applies runs =
    exchanged before later m t (record { lists = lists; listed = listed }) commute to applies runs
