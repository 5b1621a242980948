use Rattle.std.proofs.Common.{◌+◌, List, sym, subst, arith}
use Rattle.transitions.specs.declared.relations.Relation.{Relation}
use Rattle.axiom_layers.proofs.Raised.{roots_kept}
use Rattle.axiom_layers.proofs.RootValues.{keeps_on, keeps_itself}
use Rattle.trans_merge.proofs.OfCost.{SingleBelow, related, single_none, single_more, single_all}
use Rattle.trans_merge.proofs.single.single_relations.Goals as goal

pub operators-init : goal.operators-init
operators-init c = record {
  kept = keeps_itself c.args.ops.now;
  reduced = c.table.ensures.reduced;
  roots = c.requires.roots;
  so_far = subst (λ (xs : List Relation). SingleBelow c.args.task.now c.args.order.now c.args.ops.now 0 xs)
      (sym c.new-single.ensures.items) (single_none c.args.task.now c.args.order.now c.args.ops.now);
}

pub relation-requires-clause-roots : goal.relation-requires-clause-roots
relation-requires-clause-roots c = c.operators.invariant.roots

pub operators-preserved : goal.operators-preserved
operators-preserved c =
    let inv = c.operators.invariant in
    let task = c.args.task.now in
    let o = c.args.order.now in
    let it = c.in_ok-one.ensures in
    let r = c.in_ok-one.one in
    record {
      kept = keeps_on c.args.ops.now c.operators.ops c.relation.new.ops inv.kept it.kept;
      reduced = it.reduced;
      roots = roots_kept task o c.operators.ops c.relation.new.ops c.args.derived.now it.kept inv.roots;
      so_far = subst (λ (xs : List Relation). SingleBelow task o c.relation.new.ops (c.operators.op + 1) xs) (sym c.in_ok-push.ensures.items)
          (single_more task o c.operators.ops c.relation.new.ops c.operators.op c.operators.single.items r it.kept
          inv.so_far (related task o c.relation.new.ops c.operators.op r it.known it.ready it.relates));
    }

pub returns-clause-single : goal.returns-clause-single
returns-clause-single c =
    let below = c.operators.auto.op-end in
    let above = c.operators-test.false in
    let end = c.operators-op-end.ensures in
    single_all c.args.task.now c.args.order.now c.operators.ops c.operators.op c.operators.single.items
    (omega (arith, below, above, end)) c.operators.invariant.so_far
