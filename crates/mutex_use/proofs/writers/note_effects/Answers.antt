use Rattle.std.proofs.Common.{get_or}
use Rattle.std.proofs.lemmas.List.{get_or_default}
use Rattle.mutex_use.proofs.Noting.{notes_start, notes_next, notes_end}
use Rattle.mutex_use.proofs.writers.note_effects.Goals as goal

pub effects-init : goal.effects-init
effects-init c = notes_start c.args.writers.now c.args.op c.args.effects.now

pub effects-preserved : goal.effects-preserved
effects-preserved c =
    let d = c.index-effects-i.result in
    let e = get_or c.args.effects.now c.effects.i d in
    notes_next c.args.effects.now c.effects.i e c.effects-test.true
    (get_or_default c.args.effects.now c.effects.i e d c.effects-test.true)
    (c.requires c.effects.i d c.effects-test.true) c.in_ok-note.ensures c.effects.invariant

pub returns : goal.returns
returns c = notes_end c.args.writers.now c.effects.writers c.args.op c.args.effects.now c.effects.i c.effects-test.false c.effects.invariant
