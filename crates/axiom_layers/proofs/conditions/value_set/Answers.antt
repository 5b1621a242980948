use Rattle.std.proofs.Common.{◌∙◌, ap, sym, List, ℕ, ◌<◌, get_or, arith}
use Rattle.std.specs.Option.{is_some}
use Rattle.symk_task.specs.declared.parts.Variable.{Variable}
use Rattle.symk_task.specs.Variables.{range}
use Rattle.symk_task.proofs.Places.{within_some, base_by}
use Rattle.bdd_table.proofs.Adding.{ok_by}
use Rattle.axiom_layers.proofs.RootValues.{neg_of_states}
use Rattle.axiom_layers.proofs.FactSets.{read_base, read_derived, base_says, other_says, default_says}
use Rattle.axiom_layers.proofs.conditions.value_set.Goals as goal

pub returns-then-is_none-clause-meaning : goal.returns-then-is_none-clause-meaning
returns-then-is_none-clause-meaning c =
    let lt = within_some (λ v. c.args.fact.val < range v) c.args.parts.now.variables c.args.fact.var c.requires.fact in
    let base = read_base c.args.parts.now c.as_slice.result.now c.args.fact.var c.index-as_slice-var.result c.as_slice.ensures lt c.index-as_slice-var.is
    (base_by c.index-as_slice-var.result.layer c.is_none.result
    (ap (λ (x : Variable). is_some x.layer) c.index-as_slice-var.is ∙ c.is_none.ensures) ∙ c.if-is_none.true) in
    ok_by c.fact_set.result _ _ c.fact_set.ensures.states (λ id m. base_says c.args.parts.now c.args.order.now
    c.fact_set.new.ops c.args.roots.now c.args.fact id c.requires.order base m)

pub returns-then-fact-as_slice-clause-of_states : goal.returns-then-fact-as_slice-clause-of_states
returns-then-fact-as_slice-clause-of_states c =
    let lt = within_some (λ v. c.args.fact.val < range v) c.args.parts.now.variables c.args.fact.var c.requires.fact in
    let sets = c.requires.roots in
    ok_by c.neg.result _ _ c.neg.ensures.meaning (λ id m. neg_of_states c.args.order.now c.args.ops.now c.neg.new.self
    (get_or c.args.roots.now c.args.fact.var 0) id (sets.of_states c.args.fact.var
    (let e = sets.each in omega (arith, lt, e))) m)

pub returns-then-fact-as_slice-clause-meaning : goal.returns-then-fact-as_slice-clause-meaning
returns-then-fact-as_slice-clause-meaning c =
    let lt = within_some (λ v. c.args.fact.val < range v) c.args.parts.now.variables c.args.fact.var c.requires.fact in
    let l = read_derived c.args.parts.now c.as_slice.result.now c.args.fact.var c.index-as_slice-var.result c.as_slice.ensures lt c.index-as_slice-var.is
    (base_by c.index-as_slice-var.result.layer c.is_none.result
    (ap (λ (x : Variable). is_some x.layer) c.index-as_slice-var.is ∙ c.is_none.ensures)
    ∙ c.if-is_none.false) in
    ok_by c.neg.result _ _ c.neg.ensures.meaning (λ id m. default_says c.args.fact l.0 id c.requires.fits l.1
    (c.if-fact-as_slice.true ∙ ap (λ (l : List ℕ). get_or l c.args.fact.var 0) c.as_slice-else-is_none.ensures) c.neg.ensures.kept c.requires.roots m)

pub returns-else-fact-as_slice-clause-of_states : goal.returns-else-fact-as_slice-clause-of_states
returns-else-fact-as_slice-clause-of_states c =
    let lt = within_some (λ v. c.args.fact.val < range v) c.args.parts.now.variables c.args.fact.var c.requires.fact in
    let sets = c.requires.roots in
    sets.of_states c.args.fact.var (let e = sets.each in omega (arith, lt, e))

pub returns-else-fact-as_slice-clause-meaning : goal.returns-else-fact-as_slice-clause-meaning
returns-else-fact-as_slice-clause-meaning c =
    let lt = within_some (λ v. c.args.fact.val < range v) c.args.parts.now.variables c.args.fact.var c.requires.fact in
    let l = read_derived c.args.parts.now c.as_slice.result.now c.args.fact.var c.index-as_slice-var.result c.as_slice.ensures lt c.index-as_slice-var.is
    (base_by c.index-as_slice-var.result.layer c.is_none.result
    (ap (λ (x : Variable). is_some x.layer) c.index-as_slice-var.is ∙ c.is_none.ensures)
    ∙ c.if-is_none.false) in
    other_says c.args.parts.now c.args.order.now c.args.ops.now c.args.roots.now c.args.fact l.0 c.requires.fits l.1 c.requires.fact
    (λ e. c.if-fact-as_slice.false (e ∙ sym (ap (λ (l : List ℕ). get_or l c.args.fact.var 0) c.as_slice-else-is_none.ensures)))
