use Rattle.bidirectional.specs.Both.{BothGoOn}
use Rattle.search_tests.proofs.telling.answers_of.Given as goal

abbrev pub invariant-answers : goal.invariant-answers
invariant-answers g l =
    let view = g.S.Space.view in
    BothGoOn (view l.fn.space) (view l.space) l.fn.both l.both
