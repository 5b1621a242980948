use Rattle.symk_task.specs.declared.parts.Mode.TheVariants.{Unordered}
use Rattle.selectors.proofs.Noting.{noted}
use Rattle.selectors.proofs.keys.note_class.Goals as goal

pub returns-clause-ok : goal.returns-clause-ok
returns-clause-ok c = noted Unordered c.args.seen.now c.note.new.self c.args.plan.now c.in_ok-key.key.items
    c.in_ok-fresh.fresh c.requires c.in_ok-key.ensures c.in_ok-fresh.ensures.noted c.in_ok-fresh.ensures.found
