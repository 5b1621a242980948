use Rattle.std.proofs.Common.{get_or, arith}
use Rattle.std.proofs.lemmas.List.Elements.{Contains-get_or}
use Rattle.stubborn_sets.proofs.choosing.weight.Goals as goal

pub unmarked-requires : goal.unmarked-requires
unmarked-requires c = λ k d lt.
    let within = c.of.ensures.within (get_or c.of.result.now k d) (Contains-get_or c.of.result.now k d lt) in
    omega (arith, within, c.requires.each)
