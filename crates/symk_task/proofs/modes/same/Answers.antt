use Rattle.std.proofs.Common.{◌↔◌, sym, subst}
use Rattle.std.specs.Bool.{IsTrue}
use Rattle.std.proofs.lemmas.Bool.Decides.{Decides-eqb}
use Rattle.std.proofs.lemmas.Slice.Eq.{slice_eq-Decides}
use Rattle.symk_task.specs.declared.parts.Mode.{Mode}
use Rattle.symk_task.specs.Plans.{Same}
use Rattle.symk_task.proofs.Rising.{sorted_same}
use Rattle.symk_task.proofs.modes.same.Goals as goal

pub returns-in_ok-sorted-in-Unordered-2 : goal.returns-in_ok-sorted-in-Unordered-2
returns-in_ok-sorted-in-Unordered-2 c =
    let p = c.args.p.now in
    let q = c.args.q.now in
    let left = c.in_ok-sorted-in-Unordered in
    let right = c.in_ok-sorted-in-Unordered-2 in
    let equal = slice_eq-Decides Decides-eqb left.field-0 right.field-0 c.eq-in-Unordered-3.result c.eq-in-Unordered-3.ensures in
    let even = sorted_same p q left.field-0 right.field-0 left.ensures.permutation right.ensures.permutation left.ensures.rising right.ensures.rising in
    let Goal : Mode → Type 0 = λ mode. IsTrue c.eq-in-Unordered-3.result ↔ Same mode p q in
    subst Goal (sym c.in-Unordered.is) (λ t. even.0 (equal.0 t), λ h. equal.1 (even.1 h))
