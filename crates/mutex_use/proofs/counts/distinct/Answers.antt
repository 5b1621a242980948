use Rattle.std.proofs.Common.{◌+◌, get_or, sym, ◌∙◌, ap, subst, Vec, Global}
use Rattle.std.specs.BTreeSet.{contains}
use Rattle.std.proofs.lemmas.List.{get_or_default}
use Rattle.symk_task.specs.declared.parts.Fact.{Fact}
use Rattle.mutex_use.proofs.Keying.{pair_cmp, key, Seen, seen_none, seen_more, seen_same, each_once, was_new, was_there}
use Rattle.mutex_use.proofs.counts.distinct.Goals as goal
use Rattle.mutex_use.proofs.counts.distinct.Goals.{then-branch+in_ok-push, else-branch}

pub facts-init : goal.facts-init
facts-init c = seen_none c.args.facts.now c.new-seen.result c.new-each.result.items c.new-seen.ensures.empty c.new-each.ensures.items

pub facts-preserved : goal.facts-preserved
facts-preserved c =
    let zero : Fact = record { var = 0; val = 0 } in
    let facts = c.args.facts.now in
    let i = c.facts.i in
    let f = get_or facts i zero in
    let new = c.insert.new.self in
    let each = c.facts.each.items in
    let lt = c.facts-test.true in
    let here = get_or_default facts i f zero lt in
    let was = contains pair_cmp c.facts.seen (key f) in
    elim c.if-branch.branch [
      | then-branch+in_ok-push w ↦ subst (Seen facts (i + 1) new) (sym (ap (λ (v : Vec Fact Global). v.items) w.each-is ∙ w.in_ok-push.ensures.items))
          (seen_more facts i f c.facts.seen new each lt here c.facts.invariant c.in_ok-insert.ensures.updates.0
          (was_new c.in_ok-insert.field-0 was c.in_ok-insert.ensures.added w.if-branch.true))
      | else-branch w ↦ subst (Seen facts (i + 1) new) (sym (ap (λ (v : Vec Fact Global). v.items) w.each-is))
          (seen_same facts i f c.facts.seen new each lt here c.facts.invariant c.in_ok-insert.ensures.updates.0
          (was_there c.in_ok-insert.field-0 was c.in_ok-insert.ensures.added w.if-branch.false))
    ]

pub returns : goal.returns
returns c = each_once c.args.facts.now c.facts.i c.facts.seen c.facts.each.items c.facts-test.false c.facts.invariant
