use Rattle.std.proofs.Common.{◌∙◌, ap, arith, ℕ, List}
use Rattle.axiom_layers.specs.Raising.{values_of}
use Rattle.axiom_layers.proofs.RootValues.{keeps_itself, keeps_on, kept_values, values_length}
use Rattle.axiom_layers.proofs.PassTurns.{passes_none, passes_more, closes_early, closes_late}
use Rattle.axiom_layers.proofs.layer.close_layer.Goals as goal

pub passes-init : goal.passes-init
passes-init c = record {
  kept = keeps_itself c.args.ops.now;
  reduced = c.table.ensures.reduced;
  sets = c.requires.roots;
  passes = λ layer are s b _ _. passes_none c.args.parts.now layer (values_of c.args.parts.now c.args.ops.now c.args.roots.now.items s b) c.requires.fits;
}

pub returns-then-not-changed-clause-closes : goal.returns-then-not-changed-clause-closes
returns-then-not-changed-clause-closes c = λ layer are s b state code.
    let task = c.args.parts.now in
    let xs = c.passes.ops in
    let ys = c.pass.new.ops in
    let inv = c.passes.invariant in
    let done = c.in_ok-changed.ensures in
    let same = ap (λ (r : List ℕ). values_of task ys r s b) (done.same c.if-not-changed.true)
    ∙ kept_values task c.args.order.now xs ys c.passes.roots.items s b done.kept inv.sets in
    closes_early task layer c.passes.counter c.args.rules.now
    (values_of task c.args.ops.now c.args.roots.now.items s b) (values_of task xs c.passes.roots.items s b)
    (values_of task ys c.pass.new.roots.items s b)
    are (inv.passes layer are s b state code) (done.turn layer are s b state code) same

pub passes-preserved : goal.passes-preserved
passes-preserved c =
    let task = c.args.parts.now in
    let xs = c.passes.ops in
    let ys = c.pass.new.ops in
    let inv = c.passes.invariant in
    let done = c.in_ok-changed.ensures in
    record {
      kept = keeps_on c.args.ops.now xs ys inv.kept done.kept;
      reduced = done.reduced;
      sets = done.roots;
      passes = λ layer are s b state code. passes_more task layer c.passes.counter c.args.rules.now
          (values_of task c.args.ops.now c.args.roots.now.items s b) (values_of task xs c.passes.roots.items s b)
          (values_of task ys c.pass.new.roots.items s b)
          are (inv.passes layer are s b state code) (done.turn layer are s b state code);
    }

pub returns-clause-closes : goal.returns-clause-closes
returns-clause-closes c = λ layer are s b state code.
    let task = c.args.parts.now in
    let n = c.len-end.ensures in
    closes_late task layer c.passes.counter (values_of task c.args.ops.now c.args.roots.now.items s b)
    (values_of task c.passes.ops c.passes.roots.items s b) c.requires.fits
    (values_length task c.passes.ops c.passes.roots.items s b)
    (omega (arith, n, c.passes-test.false)) (c.passes.invariant.passes layer are s b state code)
