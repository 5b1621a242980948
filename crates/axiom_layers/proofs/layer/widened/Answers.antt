use Rattle.std.proofs.Common.{◌||◌, Bool, List, get_or, subst}
use Rattle.std.specs.List.{All}
use Rattle.symk_task.specs.declared.parts.Fact.{Fact}
use Rattle.task_run.specs.Values.{HasValue}
use Rattle.bdd_table.proofs.Adding.{ok_by}
use Rattle.axiom_layers.specs.Raising.{IsTrueExactlyWhere}
use Rattle.axiom_layers.proofs.RootValues.{kept_sets, both_of_states}
use Rattle.axiom_layers.proofs.RuleTurns.{turned, rule_within}
use Rattle.axiom_layers.proofs.layer.widened.Goals as goal

pub returns-clause-of_states : goal.returns-clause-of_states
returns-clause-of_states c =
    let o = c.args.order.now in
    let rule = c.args.rule.now in
    let roots = c.args.roots.now in
    let ys = c.values_set.new.ops in
    let sets = kept_sets c.args.parts.now o c.args.ops.now ys roots c.in_ok-conds.ensures.kept c.requires.roots in
    let lt = rule_within c.args.parts.now o c.args.ops.now roots rule c.requires.rule c.requires.roots in
    ok_by c.disj.result _ _ c.disj.ensures.meaning (λ root m. both_of_states (λ (t u : Bool). t || u) o ys
    c.disj.new.self (get_or roots rule.var 0) c.in_ok-conds.conds root (sets.of_states rule.var lt)
    c.in_ok-conds.ensures.of_states m)

pub returns-clause-turn : goal.returns-clause-turn
returns-clause-turn c = ok_by c.disj.result _ _ c.disj.ensures.meaning (λ root m s b state code.
    turned c.args.parts.now c.args.order.now c.args.rule.now c.args.ops.now c.values_set.new.ops c.disj.new.self c.args.roots.now c.in_ok-conds.conds root
    c.requires.fits c.requires.rule c.requires.counts c.requires.roots c.in_ok-conds.ensures.kept c.disj.ensures.kept c.in_ok-conds.ensures.known
    (subst (λ (facts : List Fact). IsTrueExactlyWhere c.args.parts.now c.args.order.now c.values_set.new.ops c.args.roots.now
    (λ values. All (HasValue values) facts) c.in_ok-conds.conds) c.as_slice.ensures
    c.in_ok-conds.ensures.meaning)
    m s b state code)
