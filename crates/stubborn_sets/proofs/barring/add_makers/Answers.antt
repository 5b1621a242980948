use Rattle.std.proofs.Common.{IsTrue, length}
use Rattle.std.specs.List.{All}
use Rattle.stubborn_sets.specs.Closing.{has_mark, HasMakers}
use Rattle.stubborn_sets.proofs.GrowingLaw.{all_within, has_makers, on_both}
use Rattle.stubborn_sets.proofs.barring.add_makers.Goals as goal

pub add_all-requires : goal.add_all-requires
add_all-requires c = all_within (length c.args.parts.now.operators) (length c.args.set.now.marks.items) c.of.result.now c.of.ensures c.requires.each

pub returns-clause-has : goal.returns-clause-has
returns-clause-has c =
    let ops = c.of.result.now in
    let new = c.add_all.new.self.marks.items in
    let all : Type 0 = All (λ op. IsTrue (has_mark new op)) ops in
    on_both c.add_all.result all all (HasMakers c.args.parts.now c.args.fact new)
    (λ has _. has_makers c.args.parts.now c.args.fact ops new c.of.ensures has)
    c.add_all.ensures.has c.add_all.ensures.has
