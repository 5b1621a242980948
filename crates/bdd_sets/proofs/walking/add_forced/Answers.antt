use Rattle.std.proofs.lemmas.Result.{on_ok_weaker}
use Rattle.bdd_sets.proofs.Passing.{adds_forced}
use Rattle.bdd_sets.proofs.walking.add_forced.Goals as goal

pub returns-then-one-block : goal.returns-then-one-block
returns-then-one-block c =
    on_ok_weaker c.add_end.result
    (adds_forced c.args.block c.args.start c.args.id c.args.one.value c.args.one.end c.held.ensures.reduced
    c.requires.end c.requires.ends c.requires.forced)
    c.add_end.ensures
