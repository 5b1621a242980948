use Rattle.std.proofs.Common.{List, All, sym, subst}
use Rattle.symk_task.specs.declared.parts.Fact.{Fact}
use Rattle.symk_task.specs.Variables.{IsBase}
use Rattle.mutex_use.specs.Counts.{IsEachOnce}
use Rattle.mutex_use.proofs.Counting.{each_base, twice_kept, twice_gives}
use Rattle.mutex_use.proofs.counts.breaking.Goals as goal

pub count_facts-requires-clause-base : goal.count_facts-requires-clause-base
count_facts-requires-clause-base g c =
    let base = λ (f : Fact). IsBase (g.S.Space.view c.args.space.now).task f.var in
    subst (λ (z : List Fact). All base z) (sym c.deref.ensures.value)
    (each_base base c.args.facts.now c.in_ok-each.each.items c.in_ok-each.ensures c.requires.base)

pub returns-clause-kept : goal.returns-clause-kept
returns-clause-kept g c =
    let view = g.S.Space.view in
    twice_kept (view c.args.space.now) (view c.count_facts.new.space) (view c.forget.new.self) c.args.within
    c.args.facts.now c.deref.result.now c.in_ok-counts.counts
    (subst (IsEachOnce c.args.facts.now) (sym c.deref.ensures.value) c.in_ok-each.ensures) c.in_ok-counts.ensures.ok c.forget.ensures

pub returns-clause-ok : goal.returns-clause-ok
returns-clause-ok g c =
    let view = g.S.Space.view in
    twice_gives (view c.args.space.now) (view c.count_facts.new.space) (view c.forget.new.self) c.args.within
    c.args.facts.now c.deref.result.now c.in_ok-counts.counts
    (subst (IsEachOnce c.args.facts.now) (sym c.deref.ensures.value) c.in_ok-each.ensures) c.in_ok-counts.ensures.ok c.forget.ensures
