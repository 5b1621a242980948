use Rattle.std.proofs.Common.{◌∙◌, ◌<◌, ℕ, List, [], Option, ap, sym, subst, arith}
use Rattle.std.specs.List.{All}
use Rattle.std.specs.Option.{option_map_or}
use Rattle.symk_task.specs.declared.parts.Operator.{Operator}
use Rattle.symk_task.specs.declared.parts.TaskParts.{TaskParts}
use Rattle.symk_task.specs.Steps.{Step}
use Rattle.task_run.proofs.Stepping.{operator_at}
use Rattle.bdd_table.specs.Diagram.{means}
use Rattle.var_order.specs.Layout.{bits}
use Rattle.transitions.specs.Relations.{Relates}
use Rattle.transitions.specs.Touched.{is_touched, touched_places}
use Rattle.transitions.proofs.TouchedPlaces.{filter_below}
use Rattle.transitions.proofs.Leading.{leads}
use Rattle.transitions.proofs.RelationLaw.{relation_law}
use Rattle.transitions.proofs.building.relation.Goals as goal

pub of-requires : goal.of-requires
of-requires c =
    let order = c.args.order.now in
    let places = c.in_ok-touched.ensures in
    let most = c.requires.order.layout.most in
    subst (λ (xs : List ℕ). All (λ p. p < 2147483647) xs) (sym places) (λ k d lt.
    let below = filter_below (is_touched order c.as_slice-2.result.now) (bits order) 0 k d lt in omega (arith, below, most))

pub returns-clause-touched : goal.returns-clause-touched
returns-clause-touched c =
    let task = c.args.task.now in
    let order = c.args.order.now in
    let operator = c.index-as_slice-op.result in
    let here = (operator_at task c.as_slice.result.now c.args.op operator c.parts.ensures.fits
    (c.as_slice.ensures ∙ ap (λ (t : TaskParts). t.operators) c.parts.ensures.value) c.requires.op
    c.index-as_slice-op.is).0 in
    ap (λ (v : _). v.items) c.in_ok-of.ensures.touched ∙ c.in_ok-touched.ensures
    ∙ ap (touched_places order) (c.as_slice-2.ensures ∙ sym
    (ap (λ (x : Option Operator). option_map_or (λ (o : Operator). o.effects) x []) here))

pub returns-clause-relates : goal.returns-clause-relates
returns-clause-relates c =
    let task = c.args.task.now in
    let order = c.args.order.now in
    let operator = c.index-as_slice-op.result in
    let fits = c.parts.ensures.fits in
    let here = (operator_at task c.as_slice.result.now c.args.op operator fits
    (c.as_slice.ensures ∙ ap (λ (t : TaskParts). t.operators) c.parts.ensures.value) c.requires.op
    c.index-as_slice-op.is).0 in
    let places = ap (λ (v : _). v.items) c.in_ok-of.ensures.touched ∙ c.in_ok-touched.ensures ∙ ap (touched_places order) c.as_slice-2.ensures in
    let law = relation_law task order c.requires.order fits c.args.op operator here
    (leads task c.args.op operator fits here) (means c.steps_of.new.ops c.in_ok-root.root)
    c.in_ok-root.ensures.meaning in
    subst (λ (xs : List ℕ). Relates order xs (λ s t. Step task s c.args.op t) (means c.steps_of.new.ops c.in_ok-of.field-0.root)) (sym places)
    (subst (λ (id : ℕ). Relates order (touched_places order operator.effects) (λ s t. Step task s c.args.op t)
    (means c.steps_of.new.ops id)) (sym c.in_ok-of.ensures.root) law)
