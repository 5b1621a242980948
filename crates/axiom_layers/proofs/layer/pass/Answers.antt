use Rattle.std.proofs.Common.{◌≡◌, ◌∙◌, ◌<◌, sym, refl, subst, inr, arith, ℕ, List, length, get_or}
use Rattle.std.proofs.lemmas.Bool.{false≢true}
use Rattle.std.proofs.lemmas.List.{get_or_default}
use Rattle.symk_task.specs.declared.parts.Rule.{Rule}
use Rattle.task_run.specs.declared.counting.Counting.{Counting}
use Rattle.task_run.specs.Layer.Grows.{done}
use Rattle.task_run.proofs.Bucketing.{counting_within}
use Rattle.axiom_layers.specs.Raising.{values_of}
use Rattle.axiom_layers.proofs.RootValues.{keeps_itself, keeps_on, values_length}
use Rattle.axiom_layers.proofs.LayerRules.{rule_read}
use Rattle.axiom_layers.proofs.PassTurns.{IsRuleAt, turn_more}
use Rattle.axiom_layers.proofs.layer.pass.Goals as goal
use Rattle.axiom_layers.proofs.layer.pass.Goals.{then-branch, else-branch}

pub loop-counting-init : goal.loop-counting-init
loop-counting-init c = record {
  kept = keeps_itself c.args.ops.now;
  reduced = c.table.ensures.reduced;
  sets = c.requires.roots;
  same = λ _. refl;
  turn = λ layer are s b _ _. (done (values_of c.args.parts.now c.args.ops.now c.args.roots.now.items s b), inr (refl, (λ k d lt. absurd (omega (arith, lt)))));
}

pub bounds-as_slice-counting : goal.bounds-as_slice-counting
bounds-as_slice-counting c =
    let none : Counting = record { layer = 0; rule = 0 } in
    let i = c.loop-counting.counting-index in
    let lt = counting_within c.args.parts.now (get_or c.args.rules.now i none) (c.requires.rules i none c.loop-counting-test.true) in
    subst (λ (z : List Rule). (get_or c.args.rules.now i none).rule < length z) (sym c.as_slice.ensures) lt

pub add_rule-requires-clause-rule : goal.add_rule-requires-clause-rule
add_rule-requires-clause-rule c =
    let none : Counting = record { layer = 0; rule = 0 } in
    let i = c.loop-counting.counting-index in
    (rule_read c.args.parts.now c.as_slice.result.now (get_or c.args.rules.now i none)
    c.index-as_slice-counting.result c.requires.fits (c.requires.rules i none c.loop-counting-test.true)
    c.as_slice.ensures c.index-as_slice-counting.is).fits

pub add_rule-requires-clause-counts : goal.add_rule-requires-clause-counts
add_rule-requires-clause-counts c =
    let none : Counting = record { layer = 0; rule = 0 } in
    let i = c.loop-counting.counting-index in
    (rule_read c.args.parts.now c.as_slice.result.now (get_or c.args.rules.now i none)
    c.index-as_slice-counting.result c.requires.fits (c.requires.rules i none c.loop-counting-test.true)
    c.as_slice.ensures c.index-as_slice-counting.is).counts

pub loop-counting-preserved : goal.loop-counting-preserved
loop-counting-preserved c =
    let task = c.args.parts.now in
    let inv = c.loop-counting.invariant in
    let added = c.in_ok-add_rule.ensures in
    let none : Counting = record { layer = 0; rule = 0 } in
    let i = c.loop-counting.counting-index in
    let counting : Counting = get_or c.args.rules.now i none in
    let rule = c.index-as_slice-counting.result in
    let lt = c.loop-counting-test.true in
    let read = rule_read task c.as_slice.result.now counting rule c.requires.fits (c.requires.rules i none lt)
    c.as_slice.ensures c.index-as_slice-counting.is in
    let at : IsRuleAt task c.args.rules.now i rule = record {
      counting = counting;
      within = lt;
      is = get_or_default c.args.rules.now i none counting lt;
      found = read.at;
    } in
    record {
      kept = keeps_on c.args.ops.now c.loop-counting.ops c.add_rule.new.ops inv.kept added.kept;
      reduced = added.reduced;
      sets = added.roots;
      same = (elim c.if-branch.branch [
        | then-branch w ↦ λ not_so. absurd (false≢true (sym not_so ∙ w.changed-is))
        | else-branch w ↦ λ not_so. added.same w.if-branch.false ∙ inv.same (sym w.changed-is ∙ not_so)
      ]);
      turn = λ layer are s b state code. turn_more
          (values_of task c.args.ops.now c.args.roots.now.items s b)
          (values_of task c.loop-counting.ops c.loop-counting.roots.items s b)
          (values_of task c.add_rule.new.ops c.add_rule.new.roots.items s b)
          c.requires.fits (values_length task c.loop-counting.ops c.loop-counting.roots.items s b) are at
          (inv.turn layer are s b state code) (added.turn s b state code);
    }

pub returns-clause-turn : goal.returns-clause-turn
returns-clause-turn c = λ layer are s b state code.
    let task = c.args.parts.now in
    let rules = c.args.rules.now in
    let last : c.loop-counting.counting-index ≡ length rules =
    (let le = c.loop-counting-test.false in let ge = c.loop-counting.auto.counting-index-end in omega
    (arith, le, ge)) in
    subst (λ (n : ℕ). Rattle.axiom_layers.specs.Raising.PassTurn task layer rules n
    (values_of task c.args.ops.now c.args.roots.now.items s b)
    (values_of task c.loop-counting.ops c.loop-counting.roots.items s b)) last
    (c.loop-counting.invariant.turn layer are s b state code)
