use Rattle.sas_reader.specs.Numbers.{numbers_of}
use Rattle.sas_reader.proofs.EffectLines.{conds_in, facts_go_on, facts_end, facts_done}
use Rattle.sas_reader.proofs.effects.first_facts.Goals as goal

pub returns-in-None : goal.returns-in-None
returns-in-None c = facts_end c.args.variables.now c.loop.facts c.args.count c.loop.counter
    (numbers_of c.loop.rest.now) (conds_in c.args.variables.now c.args.count (numbers_of c.args.line.now))
    c.loop-test.true c.in-None.ensures c.loop.invariant

pub loop-preserved : goal.loop-preserved
loop-preserved c = rw c.in_ok-push-in-Some.ensures.ok (facts_go_on c.args.variables.now c.loop.facts c.args.count
    c.loop.counter (numbers_of c.loop.rest.now) (numbers_of c.in-Some.after.now) c.in-Some.fact
    (conds_in c.args.variables.now c.args.count (numbers_of c.args.line.now)) c.loop-test.true
    c.in-Some.ensures c.loop.invariant)

pub returns : goal.returns
returns c = facts_done c.args.variables.now c.loop.facts c.args.count c.loop.counter (numbers_of c.loop.rest.now)
    (conds_in c.args.variables.now c.args.count (numbers_of c.args.line.now)) c.loop-test.false c.loop.invariant
