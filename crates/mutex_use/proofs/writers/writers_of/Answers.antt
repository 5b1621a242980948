use Rattle.std.proofs.Common.{◌≡◌, ◌<◌, ◌+◌, ℕ, List, [], length, get_or, slice_get, All, Some, sym, ◌∙◌, ap, subst, arith}
use Rattle.std.proofs.Math.ListN.{replicate}
use Rattle.std.proofs.lemmas.Option.{slice_get-get_or}
use Rattle.symk_task.specs.declared.parts.Effect.{Effect}
use Rattle.symk_task.specs.declared.parts.Operator.{Operator}
use Rattle.symk_task.specs.declared.parts.TaskParts.{TaskParts}
use Rattle.mutex_use.specs.Writers.{AreWriters, NotesWriter}
use Rattle.mutex_use.proofs.Lists.{write_back}
use Rattle.mutex_use.proofs.Noting.{writers_start, writers_next, effects_within}
use Rattle.mutex_use.proofs.writers.writers_of.Goals as goal

pub operators-init : goal.operators-init
operators-init c =
    writers_start c.args.task.now c.in_ok-writers.writers.items
    (c.in_ok-writers.ensures ∙ ap (λ (n : ℕ). replicate n []) (c.len.ensures ∙ ap (λ (t : TaskParts). length t.variables) c.parts-parts.ensures.value))

pub note_effects-requires : goal.note_effects-requires
note_effects-requires c =
    let all = c.as_slice-operators.result.now in
    let i = c.operators.i in
    let operator = get_or all i c.index-operators-i.result in
    let whole : all ≡ c.args.task.now.operators = c.as_slice-operators.ensures ∙ ap (λ (t : TaskParts). t.operators) c.parts-parts.ensures.value in
    let at : slice_get c.args.task.now.operators i ≡ Some operator =
    subst (λ (z : List Operator). slice_get z i ≡ Some operator) whole
    (slice_get-get_or all i c.index-operators-i.result c.operators-test.true) in
    subst (λ (z : List Effect). All (λ (e : Effect). e.var < length c.deref_mut.result.now) z) (sym c.as_slice.ensures)
    (effects_within c.args.task.now i operator (length c.deref_mut.result.now) c.parts-parts.ensures.fits at
    (ap length c.deref_mut.ensures.value ∙ c.operators.invariant.each))

pub operators-preserved : goal.operators-preserved
operators-preserved c =
    let all = c.as_slice-operators.result.now in
    let i = c.operators.i in
    let new = c.note_effects.new.writers in
    let old = c.operators.writers.items in
    let operator = get_or all i c.index-operators-i.result in
    let whole : all ≡ c.args.task.now.operators = c.as_slice-operators.ensures ∙ ap (λ (t : TaskParts). t.operators) c.parts-parts.ensures.value in
    let at : slice_get c.args.task.now.operators i ≡ Some operator =
    subst (λ (z : List Operator). slice_get z i ≡ Some operator) whole
    (slice_get-get_or all i c.index-operators-i.result c.operators-test.true) in
    let notes : NotesWriter old i operator.effects new =
    subst (λ (z : List (List ℕ)). NotesWriter z i operator.effects new) c.deref_mut.ensures.value
    (subst (λ (z : List Effect). NotesWriter c.deref_mut.result.now i z new) c.as_slice.ensures
    c.in_ok-note_effects.ensures) in
    let len : length old ≡ c.operators.writers.len = sym c.operators.writers.ok.0 in
    subst (AreWriters c.args.task.now (i + 1)) (sym (write_back new old c.operators.writers.len len notes.each))
    (writers_next c.args.task.now i operator old new at c.operators.invariant notes)

pub returns : goal.returns
returns c =
    let whole : length c.as_slice-operators.result.now ≡ length c.args.task.now.operators =
    ap length (c.as_slice-operators.ensures ∙ ap (λ (t : TaskParts). t.operators)
    c.parts-parts.ensures.value) in
    let end : c.operators.i ≡ length c.args.task.now.operators = omega (arith, whole, c.operators.auto.i-end, c.operators-test.false) in
    subst (λ (n : ℕ). AreWriters c.args.task.now n c.operators.writers.items) end c.operators.invariant
