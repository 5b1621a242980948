use Rattle.std.proofs.Common.{ℕ, List, length, subst}
use Rattle.bdd_sets.specs.Occurs.{AreMarked}
use Rattle.bdd_sets.proofs.Descending.{are_occurring}
use Rattle.bdd_sets.proofs.occurring.marks_of.Goals as goal

pub returns : goal.returns
returns c =
    let o = c.args.order.now in
    let nodes = c.args.table.now in
    let starts = c.args.places.now.starts.items in
    let slots = c.args.places.now.slots.items in
    let marks = c.walk.new.marks.items in
    are_occurring o nodes c.args.set starts slots marks c.requires.places.slots
    (subst (λ (xs : List ℕ). AreMarked o nodes c.args.set starts marks xs (length xs)) c.deref-2.ensures.value
    (subst (λ (xs : List ℕ). AreMarked o nodes c.args.set xs marks c.deref-2.result.now (length c.deref-2.result.now))
    c.deref-3.ensures.value c.in_ok-walk.ensures))
