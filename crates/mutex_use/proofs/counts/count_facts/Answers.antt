use Rattle.std.proofs.Common.{inl, inr, get_or, refl, sym, ◌∙◌, subst}
use Rattle.std.proofs.lemmas.List.{get_or_default}
use Rattle.symk_task.specs.declared.parts.Fact.{Fact}
use Rattle.symk_task.specs.declared.parts.TaskParts.{TaskParts}
use Rattle.symk_task.specs.Variables.{IsBase}
use Rattle.space_api.proofs.Trading.{kept_made, all_back}
use Rattle.mutex_use.proofs.Counting.{counted_start, counted_next}
use Rattle.mutex_use.proofs.Lists.{on_err}
use Rattle.mutex_use.proofs.counts.count_facts.Goals as goal

pub facts-init : goal.facts-init
facts-init g c =
    let view = g.S.Space.view in
    record {
      task = c.no_counts.ensures.task;
      counted = counted_start (view c.args.space.now) (view c.no_counts.new.space) c.args.within c.args.facts.now
          c.in_ok-counts.counts c.in_ok-counts.ensures.pair c.in_ok-counts.ensures.once
          c.in_ok-counts.ensures.twice;
    }

pub count_fact-requires-clause-within : goal.count_fact-requires-clause-within
count_fact-requires-clause-within g c = (kept_made c.facts.invariant.counted.pair.trades).valid c.args.within c.requires.within

pub count_fact-requires-clause-once : goal.count_fact-requires-clause-once
count_fact-requires-clause-once g c = c.facts.invariant.counted.pair.trades.owned c.facts.counts.once (inl refl)

pub count_fact-requires-clause-twice : goal.count_fact-requires-clause-twice
count_fact-requires-clause-twice g c = c.facts.invariant.counted.pair.trades.owned c.facts.counts.twice (inr refl)

pub count_fact-requires-clause-apart : goal.count_fact-requires-clause-apart
count_fact-requires-clause-apart g c = c.facts.invariant.counted.pair.apart

pub count_fact-requires-clause-fact : goal.count_fact-requires-clause-fact
count_fact-requires-clause-fact g c =
    let zero : Fact = record { var = 0; val = 0 } in
    subst (λ (t : TaskParts). IsBase t (get_or c.args.facts.now c.facts.i zero).var) (sym c.facts.invariant.task)
    (c.requires.base c.facts.i zero c.facts-test.true)

pub facts-preserved : goal.facts-preserved
facts-preserved g c =
    let view = g.S.Space.view in
    let zero : Fact = record { var = 0; val = 0 } in
    let f = get_or c.args.facts.now c.facts.i zero in
    record {
      task = c.count_fact.ensures.task ∙ c.facts.invariant.task;
      counted = counted_next (view c.args.space.now) (view c.facts.space) (view c.count_fact.new.space) c.args.within
          c.args.facts.now c.facts.i f c.facts.counts c.in_ok-counts-2.counts c.requires.within
          c.requires.apart c.facts-test.true
          (get_or_default c.args.facts.now c.facts.i f zero c.facts-test.true) c.facts.invariant.task
          c.facts.invariant.counted c.in_ok-counts-2.ensures.trades c.in_ok-counts-2.ensures.more;
    }

pub returns-in_err-counts-2-clause-err : goal.returns-in_err-counts-2-clause-err
returns-in_err-counts-2-clause-err g c = on_err c.from_residual-in_err-counts-2.result
    (all_back c.facts.invariant.counted.pair.trades c.in_err-counts-2.ensures.err)
