use Rattle.std.proofs.Common.{◌+◌, ◌≡◌, List, length, get_or, ◌∙◌, ap, arith}
use Rattle.std.specs.Vec.{with_items}
use Rattle.std.proofs.lemmas.List.{with_items_is}
use Rattle.transitions.specs.declared.relations.Relation.{Relation}
use Rattle.trans_merge.specs.declared.relations.OperatorRelations.{OperatorRelations}
use Rattle.trans_merge.proofs.Rooting.{AreTaken, given_at, taken_moved, taken_roots}
use Rattle.trans_merge.proofs.relations.OperatorRelations.take_roots.Goals as goal

abbrev after : goal.After-self-2-1 → OperatorRelations
after c = record {
  costs = c.args.self.now.costs;
  single = with_items c.args.self.now.single c.put_roots.new.relations;
  joined = with_items c.args.self.now.joined c.put_roots-2.new.relations;
  starts = c.args.self.now.starts;
}

taken : (c : goal.After-self-2-1) → AreTaken c.args.self.now (after c) c.args.roots.now c.args.from (c.args.from + c.len.result)
taken c =
    let r = c.args.self.now in
    let places = c.args.roots.now in
    let single : length c.put_roots.new.relations ≡ length r.single.items = c.put_roots.auto.relations
    ∙ ap (λ (xs : List Relation). length xs) c.deref_mut.ensures.value in
    let joined : length c.put_roots-2.new.relations ≡ length r.joined.items = c.put_roots-2.auto.relations
    ∙ ap (λ (xs : List Relation). length xs) c.deref_mut-2.ensures.value in
    let k = r.single.ok.0 in
    let m = r.joined.ok.0 in
    let first = with_items_is r.single c.put_roots.new.relations (omega (arith, single, k)) in
    let second = with_items_is r.joined c.put_roots-2.new.relations (omega (arith, joined, m)) in
    record {
      same = (let l = c.len.ensures in omega (arith, l, k));
      single_count = ap (λ (xs : List Relation). length xs) first ∙ single;
      joined_count = ap (λ (xs : List Relation). length xs) second ∙ joined;
      single = given_at r.single.items (after c).single.items c.deref_mut.result.now c.put_roots.new.relations
          (λ i. get_or places (c.args.from + i) 0) c.deref_mut.ensures.value first c.put_roots.ensures;
      joined = given_at r.joined.items (after c).joined.items c.deref_mut-2.result.now c.put_roots-2.new.relations
          (λ i. get_or places (c.args.from + c.len.result + i) 0) c.deref_mut-2.ensures.value
          second c.put_roots-2.ensures;
    }

pub returns-clause-taken : goal.returns-clause-taken
returns-clause-taken c = taken_roots c.args.self.now (after c) c.args.roots.now c.args.from (c.args.from + c.len.result) (taken c) c.requires

pub returns-clause-moved : goal.returns-clause-moved
returns-clause-moved c = λ task o old new is moved. taken_moved new (taken c) is moved
