use Rattle.std.proofs.Common.{◌≡◌, take}
use Rattle.mutex_use.specs.Counts.{CountsFacts}
use Rattle.mutex_use.proofs.counts.count_facts.Given as goal

abbrev pub invariant-facts : goal.invariant-facts
invariant-facts g l =
    let view = g.S.Space.view in
    record {
      task : (view l.space).task ≡ (view l.fn.space).task;
      counted : CountsFacts (view l.fn.space) (view l.space) l.within (take l.i l.facts) l.counts;
    }
