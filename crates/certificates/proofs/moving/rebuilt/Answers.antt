use Rattle.std.proofs.Common.{◌<◌, false, [], ◌∷◌, ◌++◌, ◌∙◌, List, ℕ, length, ap, arith}
use Rattle.std.proofs.lemmas.List.{get_or_default}
use Rattle.bdd_table.specs.Diagram.{means}
use Rattle.bdd_table.proofs.Collecting.{closed_marks}
use Rattle.bdd_ops.proofs.Rebuilding.{rebuilt_none, rebuilt_more, root_kept}
use Rattle.certificates.specs.Levels.{spread}
use Rattle.certificates.proofs.moving.rebuilt.Goals as goal

pub ids-init : goal.ids-init
ids-init c = rebuilt_none c.args.old.now c.in_ok-wanted.wanted.items (spread c.args.indexes.now) c.args.ops.now
    c.push-2.new.self.items c.held-held.ensures.reduced c.table.ensures.reduced
    (c.in_ok-push-2.ensures.items ∙ ap (λ (xs : List ℕ). xs ++ 1 ∷ [])
    (c.in_ok-push.ensures.items ∙ ap (λ (xs : List ℕ). xs ++ 0 ∷ []) c.new-ids.ensures.items))

pub ids-preserved : goal.ids-preserved
ids-preserved c =
    let two = c.ids.auto.id in
    let below = c.ids-test.true in
    let known = c.requires.known in
    let marks = c.in_ok-wanted.wanted.items in
    let as_long = c.in_ok-wanted.ensures.as_long in
    let inside : c.ids.id < length c.args.old.now = omega (arith, below, known) in
    rebuilt_more c.args.old.now marks (spread c.args.indexes.now) c.args.ops.now c.ids.ops c.ids.ids.items c.ids.id
    c.held-held.ensures.reduced (closed_marks c.args.old.now (c.args.root ∷ []) marks c.in_ok-wanted.ensures)
    c.ids.invariant
    c.in_ok-new.new
    (c.index.ensures ∙ get_or_default marks c.ids.id c.index.result.now false (omega (arith, inside, as_long)))
    two inside c.in_ok-new.ensures.kept c.in_ok-new.ensures.reduced c.in_ok-new.ensures.known c.deref.ensures.value
    c.in_ok-push-3.ensures.items c.in_ok-new.ensures.meaning

pub returns-clause-meaning : goal.returns-clause-meaning
returns-clause-meaning c = λ b.
    let past = c.ids-test.false in
    let inside : c.args.root < c.ids.id = omega (arith, past) in
    let count = c.ids.invariant.count in
    ap (λ (id : ℕ). means c.ids.ops id b) (c.index-2.ensures ∙ get_or_default c.ids.ids.items c.args.root c.index-2.result.now 0 (omega (arith, inside, count)))
    ∙ c.ids.invariant.meaning c.args.root b inside (root_kept c.args.old.now c.in_ok-wanted.wanted.items c.args.root c.in_ok-wanted.ensures)
