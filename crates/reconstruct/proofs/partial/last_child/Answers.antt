use Rattle.std.proofs.Common.{arith, ◌≡◌, ◌∷◌, [], ◌++◌, ◌<◌, length, length-append, Some, None, ap, refl, ◌∙◌}
use Rattle.std.proofs.lemmas.Grind.{common_steps}
use Rattle.std.proofs.lemmas.List.{take_all}
use Rattle.cost_layers.specs.Layers.{rings_at, union_at}
use Rattle.cost_layers.proofs.Holding.{holds_kept}
use Rattle.space_api.proofs.Keeping.{stays_refl}
use Rattle.reconstruct.proofs.Parting.{earlier, left_split, left_shorter, part_take, known_last}
use Rattle.reconstruct.proofs.partial.last_child.Goals as goal

pub operators-init : goal.operators-init
operators-init g c =
    let u = g.S.Space.view c.args.space.now in
    rw c.deref-left.ensures.value (record {
      stays = stays_refl u;
      part = take_all (length c.args.partial.now.left.items) c.args.partial.now.left.items (omega arith);
      few = omega arith;
      same = refl;
    })

pub set_by-requires-clause-front : goal.set_by-requires-clause-front
set_by-requires-clause-front g c = holds_kept (g.S.Space.view c.args.space.now) (g.S.Space.view c.operators.space)
    (rings_at c.args.front.now) (union_at c.args.front.now) c.operators.invariant.stays.kept c.requires.front

pub set_by-requires-clause-op : goal.set_by-requires-clause-op
set_by-requires-clause-op g c =
    let i = c.operators.invariant in
    let left : c.operators.left.now ≡ c.in-Some.before.now ++ c.in-Some.op.now ∷ [] = grind (arith, common_steps) in
    rw i.stays.kept.system (known_last (λ n. n < (g.S.Space.view c.args.space.now).system.operators) c.args.partial.now.left.items c.operators.left.now c.in-Some.before.now c.in-Some.op.now
    c.requires.entry.2 i.part left)

pub returns-in-Some-2-clause-ok : goal.returns-in-Some-2-clause-ok
returns-in-Some-2-clause-ok g c =
    let view = g.S.Space.view in
    let u = view c.args.space.now in
    let e = c.args.partial.now.prefix in
    let i = c.operators.invariant in
    let left : c.operators.left.now ≡ c.in-Some.before.now ++ c.in-Some.op.now ∷ [] = grind (arith, common_steps) in
    let part = part_take c.args.partial.now.left.items c.operators.left.now c.in-Some.before.now c.in-Some.op.now i.part left in (
      earlier c.args.front.now e c.requires.front (c.requires.entry.0, c.requires.entry.1) i.stays (view c.set_by.new.space)
          c.in-Some.op.now (Some c.in-Some-2.set) (rw c.in-Some-2.is at c.in_ok-set.ensures.ok),
      known_last (λ n. n < u.system.operators) c.args.partial.now.left.items c.operators.left.now c.in-Some.before.now c.in-Some.op.now c.requires.entry.2 i.part left,
      omega (arith, i.few, ap length left, length-append c.in-Some.before.now (c.in-Some.op.now ∷ [])),
      rw part (i.same ∙ left_split u c.args.front.now e c.operators.left.now c.in-Some.before.now c.in-Some.op.now left),
    )

pub operators-preserved : goal.operators-preserved
operators-preserved g c =
    let view = g.S.Space.view in
    let u = view c.args.space.now in
    let e = c.args.partial.now.prefix in
    let i = c.operators.invariant in
    let left : c.operators.left.now ≡ c.in-Some.before.now ++ c.in-Some.op.now ∷ [] = grind (arith, common_steps) in
    let none = earlier c.args.front.now e c.requires.front (c.requires.entry.0, c.requires.entry.1) i.stays (view c.set_by.new.space)
    c.in-Some.op.now None (rw c.in_default-2.is at c.in_ok-set.ensures.ok) in
    record {
      stays = none.0;
      part = part_take c.args.partial.now.left.items c.operators.left.now c.in-Some.before.now c.in-Some.op.now i.part left;
      few = omega (arith, i.few, ap length left, length-append c.in-Some.before.now (c.in-Some.op.now ∷ []));
      same = i.same ∙ left_shorter u c.args.front.now e c.operators.left.now c.in-Some.before.now c.in-Some.op.now left none.1;
    }
