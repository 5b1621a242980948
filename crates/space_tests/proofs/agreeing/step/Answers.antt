use Rattle.space_tests.proofs.Rounding.{compared, kept_at}
use Rattle.space_tests.proofs.agreeing.step.Goals as goal

pub made-requires-clause-first_left : goal.made-requires-clause-first_left
made-requires-clause-first_left g c = (kept_at c.args.pairs.now.items c.args.first c.requires.first c.requires.kept).0

pub made-requires-clause-first_right : goal.made-requires-clause-first_right
made-requires-clause-first_right g c = (kept_at c.args.pairs.now.items c.args.first c.requires.first c.requires.kept).1

pub made-requires-clause-second_left : goal.made-requires-clause-second_left
made-requires-clause-second_left g c = (kept_at c.args.pairs.now.items c.args.second c.requires.second c.requires.kept).0

pub made-requires-clause-second_right : goal.made-requires-clause-second_right
made-requires-clause-second_right g c = (kept_at c.args.pairs.now.items c.args.second c.requires.second c.requires.kept).1

pub returns-clause-ok : goal.returns-clause-ok
returns-clause-ok g c = compared c.in_ok-pair.ensures.ok c.deref.ensures.value c.in_ok-keep.ensures.ok c.in_ok-keep.ensures.ok_left c.in_ok-keep.ensures.ok_right c.alike-yes.ensures
