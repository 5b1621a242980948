use Rattle.std.proofs.Common.{◌≡◌, ◌∙◌, ◌<◌, ◌-◌, ap, sym, subst, arith, add-one, ℕ, List, length, take, drop, replicate, All, IfSome}
use Rattle.symk_task.specs.declared.parts.TaskParts.{TaskParts}
use Rattle.symk_task.specs.declared.parts.Variable.{Variable}
use Rattle.symk_task.specs.Fits.{Fits}
use Rattle.task_run.proofs.Layers.{Below, layer_done, valued}
use Rattle.task_run.proofs.Rounds.{same_rules}
use Rattle.axiom_layers.specs.Roots.{AreRoots}
use Rattle.axiom_layers.specs.Raising.{values_of}
use Rattle.axiom_layers.proofs.RootValues.{keeps_itself, keeps_on}
use Rattle.axiom_layers.proofs.LayerRules.{first_begun, next_begun, slice_between, layer_rules, part_counts}
use Rattle.axiom_layers.proofs.Raised.{empty_sets, empty_below, valued_roots}
use Rattle.axiom_layers.proofs.compiling.compile.Goals as goal

pub layers-init : goal.layers-init
layers-init c =
    let task = c.parts-parts.result.now in
    let fits = subst Fits (sym c.parts-parts.ensures.value) c.parts-parts.ensures.fits in
    let reduced = c.table.ensures.reduced in
    let roots = c.in_ok-roots.roots.items in
    let none : roots ≡ replicate (length task.variables) 0 = c.in_ok-roots.ensures ∙ ap (λ (n : ℕ). replicate n 0) c.len.ensures in
    record {
      kept = keeps_itself c.args.ops.now;
      reduced = reduced;
      sets = empty_sets task c.args.order.now c.args.ops.now roots reduced none;
      begun = first_begun c.as_slice-counting.result.now;
      below = λ s b _ _. empty_below task c.args.ops.now roots s b fits reduced none;
    }

pub close_layer-requires-clause-rules : goal.close_layer-requires-clause-rules
close_layer-requires-clause-rules c =
    let task = c.parts-parts.result.now in
    let rules = c.as_slice-counting.result.now in
    let from = c.layers.from in
    let end = c.layer_end-end.result in
    let layer = c.layer_end-end.ensures in
    let are = same_rules c.args.task.now task c.in_ok-rules.rules rules c.parts-parts.ensures.value c.as_slice-counting.ensures c.in_ok-rules.ensures in
    part_counts task rules (take (end - from) (drop from rules)) from end are layer.within (slice_between rules from end layer.rising layer.within)

pub layers-preserved : goal.layers-preserved
layers-preserved c =
    let task = c.parts-parts.result.now in
    let fits = subst Fits (sym c.parts-parts.ensures.value) c.parts-parts.ensures.fits in
    let rules = c.as_slice-counting.result.now in
    let layer = c.layers.layer in
    let from = c.layers.from in
    let end = c.layer_end-end.result in
    let is = c.layer_end-end.ensures in
    let xs = c.layers.ops in
    let ys = c.close_layer.new.ops in
    let old = c.layers.roots.items in
    let new = c.close_layer.new.roots.items in
    let inv = c.layers.invariant in
    let done = c.in_ok-close_layer.ensures in
    let are = same_rules c.args.task.now task c.in_ok-rules.rules rules c.parts-parts.ensures.value c.as_slice-counting.ensures c.in_ok-rules.ensures in
    let own = layer_rules task rules (take (end - from) (drop from rules)) layer from end are inv.begun is (slice_between rules from end is.rising is.within) in
    record {
      kept = keeps_on c.args.ops.now xs ys inv.kept done.kept;
      reduced = done.reduced;
      sets = done.roots;
      begun = next_begun task rules layer from end are inv.begun is;
      below = λ s b state code. (
          let closes = done.closes layer own s b state code in
          subst (λ (n : ℕ). Below task s n (values_of task ys new s b)) (sym (add-one layer))
          (layer_done task s layer fits (values_of task xs old s b) (values_of task ys new s b) (inv.below s b state code) closes.0 closes.1));
    }

pub returns-clause-roots : goal.returns-clause-roots
returns-clause-roots c =
    let task = c.parts-parts.result.now in
    let fits = subst Fits (sym c.parts-parts.ensures.value) c.parts-parts.ensures.fits in
    let o = c.args.order.now in
    let xs = c.layers.ops in
    let roots = c.layers.roots.items in
    let inv = c.layers.invariant in
    let count = c.layer_count-layer-end.result in
    let most = subst (λ (vs : List Variable). All (λ v. IfSome v.layer (λ layer. layer < count)) vs) c.as_slice.ensures c.layer_count-layer-end.ensures in
    let last : c.layers.layer ≡ count = (let le = c.layers-test.false in let ge = c.layers.auto.layer-end in omega (arith, le, ge)) in
    let are = valued_roots task o xs roots fits inv.sets (λ s b state code. valued task s count
    (values_of task xs roots s b) fits most (subst (λ (n : ℕ). Below task s n (values_of task xs roots s b))
    last (inv.below s b state code))) in
    subst (λ (z : List ℕ). AreRoots c.args.task.now o xs z) (sym c.of-2.ensures)
    (subst (λ (z : TaskParts). AreRoots z o xs roots) c.parts-parts.ensures.value are)
