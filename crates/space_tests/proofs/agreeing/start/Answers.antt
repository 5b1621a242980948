use Rattle.space_tests.proofs.Rounding.{compared}
use Rattle.space_tests.proofs.agreeing.start.Goals as goal

pub returns-clause-ok : goal.returns-clause-ok
returns-clause-ok g c = compared c.in_ok-pair.ensures.ok c.deref.ensures.value c.in_ok-keep.ensures.ok c.in_ok-keep.ensures.ok_left c.in_ok-keep.ensures.ok_right c.alike-yes.ensures
