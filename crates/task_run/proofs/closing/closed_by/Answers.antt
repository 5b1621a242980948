use Rattle.std.proofs.Common.{◌≡◌, ◌<◌, ◌∙◌, ℕ, List, [], length, get_or, refl, sym, subst, ap, arith, eqb-true}
use Rattle.symk_task.specs.declared.parts.TaskParts.{TaskParts}
use Rattle.symk_task.specs.declared.parts.Rule.{Rule}
use Rattle.symk_task.specs.declared.parts.Variable.{Variable}
use Rattle.symk_task.specs.Fits.{Fits}
use Rattle.std.specs.Prelude.{replicate}
use Rattle.task_run.specs.declared.counting.Counting.{Counting}
use Rattle.task_run.specs.Values.{Valued}
use Rattle.task_run.specs.Layer.{start_value}
use Rattle.task_run.specs.Work.{KeptRules, AllPlaced}
use Rattle.task_run.proofs.Rounds.{IsClosedTo, IsNext, none_closed, begin_layer, end_layer, all_closed, same_rules}
use Rattle.task_run.proofs.closing.closed_by.Goals as goal

-- the values are the first ones of the task, whose parts the slices are
starts : (task : TaskParts) {s : List ℕ} {variables : List Variable} {initial state : List ℕ} (values : List ℕ)
    → variables ≡ task.variables → initial ≡ task.initial → state ≡ s
    → ((var : ℕ) → var < length variables → get_or values var 0 ≡ start_value variables initial state var)
    → (var : ℕ) → var < length task.variables → get_or values var 0 ≡ start_value task.variables task.initial s var
starts task {s} {variables} {initial} {state} values v i e first var lt =
    first var (subst (λ (z : List Variable). var < length z) (sym v) lt)
    ∙ ap (λ (z : List Variable). start_value z initial state var) v
    ∙ ap (λ (z : List ℕ). start_value task.variables z state var) i
    ∙ ap (λ (z : List ℕ). start_value task.variables task.initial z var) e

pub returns-then-is_empty : goal.returns-then-is_empty
returns-then-is_empty c =
    let parts = c.parts-parts.result.now in
    let rules = c.as_slice-counting.result.now in
    let values = c.in_ok-values.values.items in
    let fits = subst Fits (sym c.parts-parts.ensures.value) c.parts-parts.ensures.fits in
    let are = same_rules c.args.task.now parts c.args.rules.now rules c.parts-parts.ensures.value c.as_slice-counting.ensures c.requires.rules in
    let waiting : List (List ℕ) = replicate (length parts.variables) [] in
    let places : List ℕ = replicate (length parts.rules) 0 in
    let none : IsClosedTo parts c.args.state.now rules 0 values [] waiting places = none_closed fits
    (c.in_ok-values.ensures.each ∙ ap (λ (z : List Variable). length z) c.as_slice-variables.ensures)
    (starts parts values c.as_slice-variables.ensures c.as_slice.ensures c.as_slice-2.ensures
    c.in_ok-values.ensures.values)
    refl refl refl in
    let all = all_closed fits are none
    (omega (arith, eqb-true (length rules) 0 (sym c.if-is_empty.ensures))) in
    subst (λ (z : List ℕ). Valued c.args.task.now c.args.state.now z) (sym c.of.ensures)
    (subst (λ (z : TaskParts). Valued z c.args.state.now values) c.parts-parts.ensures.value all)

pub layers-init : goal.layers-init
layers-init c =
    let parts = c.parts-parts.result.now in
    let fits = subst Fits (sym c.parts-parts.ensures.value) c.parts-parts.ensures.fits in
    let variables : c.as_slice-variables.result.now ≡ parts.variables = c.as_slice-variables.ensures in
    let values = c.in_ok-values.values.items in
    let rules : c.as_slice-3.result.now ≡ parts.rules = c.as_slice-3.ensures in
    none_closed fits
    (c.in_ok-values.ensures.each ∙ ap (λ (z : List Variable). length z) variables)
    (starts parts values variables c.as_slice.ensures c.as_slice-2.ensures c.in_ok-values.ensures.values)
    c.in_ok-work.ensures.stack (c.in_ok-work.ensures.waiting ∙ ap (λ (z : List Variable). replicate (length z) [])
    variables) (c.in_ok-work.ensures.places ∙ ap (λ (z : List Rule). replicate (length z) 0) rules)

pub close_layer-requires-clause-kept : goal.close_layer-requires-clause-kept
close_layer-requires-clause-kept c =
    let parts = c.parts-parts.result.now in
    let rules = c.as_slice-counting.result.now in
    let at = c.layers.at in
    let end = c.in_ok-at.at in
    let zero_counting : Counting = record { layer = 0; rule = 0 } in
    let layer = (get_or rules at zero_counting).layer in
    let work = c.layers.work in
    let new = c.stack_layer.new.self in
    let fits = subst Fits (sym c.parts-parts.ensures.value) c.parts-parts.ensures.fits in
    let are = same_rules c.args.task.now parts c.args.rules.now rules c.parts-parts.ensures.value c.as_slice-counting.ensures c.requires.rules in
    let told = c.in_ok-at.ensures in
    let inv = c.layers.invariant in
    let next : IsNext rules at end layer zero_counting =
    record { within = c.layers-test.true; here = refl; is_layer = told.layer } in
    let ready = begin_layer new.stack.items fits are inv next told.stacked told.only in
    subst (λ (z : List (List ℕ)). KeptRules parts new.stack.items z) (sym told.waiting) ready.kept

pub close_layer-requires-clause-placed : goal.close_layer-requires-clause-placed
close_layer-requires-clause-placed c =
    let parts = c.parts-parts.result.now in
    let rules = c.as_slice-counting.result.now in
    let at = c.layers.at in
    let end = c.in_ok-at.at in
    let zero_counting : Counting = record { layer = 0; rule = 0 } in
    let layer = (get_or rules at zero_counting).layer in
    let work = c.layers.work in
    let new = c.stack_layer.new.self in
    let fits = subst Fits (sym c.parts-parts.ensures.value) c.parts-parts.ensures.fits in
    let are = same_rules c.args.task.now parts c.args.rules.now rules c.parts-parts.ensures.value c.as_slice-counting.ensures c.requires.rules in
    let told = c.in_ok-at.ensures in
    let inv = c.layers.invariant in
    let next : IsNext rules at end layer zero_counting =
    record { within = c.layers-test.true; here = refl; is_layer = told.layer } in
    let ready = begin_layer new.stack.items fits are inv next told.stacked told.only in
    subst (λ (z : List (List ℕ)). AllPlaced parts layer c.layers.values.items new.stack.items z) (sym told.waiting) ready.placed

pub layers-preserved : goal.layers-preserved
layers-preserved c =
    let parts = c.parts-parts.result.now in
    let rules = c.as_slice-counting.result.now in
    let at = c.layers.at in
    let end = c.in_ok-at.at in
    let zero_counting : Counting = record { layer = 0; rule = 0 } in
    let layer = (get_or rules at zero_counting).layer in
    let work = c.layers.work in
    let new = c.stack_layer.new.self in
    let fits = subst Fits (sym c.parts-parts.ensures.value) c.parts-parts.ensures.fits in
    let are = same_rules c.args.task.now parts c.args.rules.now rules c.parts-parts.ensures.value c.as_slice-counting.ensures c.requires.rules in
    let told = c.in_ok-at.ensures in
    let inv = c.layers.invariant in
    let next : IsNext rules at end layer zero_counting =
    record { within = c.layers-test.true; here = refl; is_layer = told.layer } in
    let ready = begin_layer new.stack.items fits are inv next told.stacked told.only in
    let done = c.in_ok-close_layer.ensures in
    end_layer fits are inv ready.below next done.grows done.stuck done.kept done.fresh

pub returns : goal.returns
returns c =
    let parts = c.parts-parts.result.now in
    let rules = c.as_slice-counting.result.now in
    let fits = subst Fits (sym c.parts-parts.ensures.value) c.parts-parts.ensures.fits in
    let are = same_rules c.args.task.now parts c.args.rules.now rules c.parts-parts.ensures.value c.as_slice-counting.ensures c.requires.rules in
    let work = c.layers.work in
    let all = all_closed fits are c.layers.invariant c.layers-test.false in
    subst (λ (z : List ℕ). Valued c.args.task.now c.args.state.now z) (sym c.of-3.ensures)
    (subst (λ (z : TaskParts). Valued z c.args.state.now c.layers.values.items) c.parts-parts.ensures.value all)
