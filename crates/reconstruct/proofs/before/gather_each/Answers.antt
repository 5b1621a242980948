use Rattle.std.proofs.Common.{arith}
use Rattle.cost_layers.specs.Layers.{rings_at, union_at}
use Rattle.cost_layers.proofs.Holding.{holds_kept}
use Rattle.space_api.proofs.Keeping.{kept_refl}
use Rattle.reconstruct.specs.declared.entries.Entry.TheVariants.{Before}
use Rattle.reconstruct.proofs.Leading.{leading_at, misses_none}
use Rattle.reconstruct.proofs.Gathering.{sofar_on, sofar_end, sofar_all}
use Rattle.reconstruct.proofs.before.gather_each.Goals as goal

pub cost_of-requires : goal.cost_of-requires
cost_of-requires g c =
    let view = g.S.Space.view in
    leading_at (view c.args.space.now) (view c.operators.space) c.args.prefix.now.set c.args.ops.now
    c.operators.op-index c.operators.invariant.makes.kept
    c.requires.into c.operators-test.true

pub add_before-requires-clause-op : goal.add_before-requires-clause-op
add_before-requires-clause-op g c =
    let view = g.S.Space.view in
    leading_at (view c.args.space.now) (view c.operators.space) c.args.prefix.now.set c.args.ops.now
    c.operators.op-index c.operators.invariant.makes.kept
    c.requires.into c.operators-test.true

pub add_before-requires-clause-front : goal.add_before-requires-clause-front
add_before-requires-clause-front g c =
    let view = g.S.Space.view in
    holds_kept (view c.args.space.now) (view c.operators.space) (rings_at c.args.front.now)
    (union_at c.args.front.now) c.operators.invariant.makes.kept c.requires.front

pub returns-in_err-add_before-clause-makes : goal.returns-in_err-add_before-clause-makes
returns-in_err-add_before-clause-makes g c = c.add_before.ensures.makes (g.S.Space.view c.args.space.now) c.operators.invariant.makes

pub operators-preserved : goal.operators-preserved
operators-preserved g c =
    let view = g.S.Space.view in
    let u = view c.args.space.now in
    let v = view c.operators.space in
    let w = view c.add_before.new.space in
    let i = c.operators.invariant in
    let level = c.operators.children.level.items in
    let falling = c.operators.children.falling.items in
    let new = c.add_before.new.children in
    record {
      way = c.way_after-way.ensures.way;
      makes = c.add_before.ensures.makes u i.makes;
      sofar = λ back held. sofar_on u v v w c.args.front.now back (Before c.args.prefix.now) c.requires.front held
          c.requires.entry i.makes.kept (kept_refl v) c.args.ops.now c.operators.op-index level falling
          new.level.items new.falling.items
          c.operators-test.true i.makes.each (i.sofar back held)
          (c.in_ok-add_before.ensures.added back (holds_kept u v (rings_at back) (union_at back) i.makes.kept
          held));
    }

pub returns-clause-ok : goal.returns-clause-ok
returns-clause-ok g c back held =
    let u = g.S.Space.view c.args.space.now in
    let v = g.S.Space.view c.operators.space in
    let e = Before c.args.prefix.now in
    let ops = c.args.ops.now in
    let level = c.operators.children.level.items in
    let falling = c.operators.children.falling.items in
    sofar_end u v c.args.front.now back e ops level falling
    (λ f b listed ready. misses_none u c.args.front.now back f b listed c.args.prefix.now ops c.requires.entry
    c.requires.into ready)
    (sofar_all u v c.args.front.now back e ops c.operators.op-index level falling
    (omega (arith, c.operators-test.false)) (c.operators.invariant.sofar back held))
