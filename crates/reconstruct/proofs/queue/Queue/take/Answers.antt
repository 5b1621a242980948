use Rattle.std.proofs.Common.{◌-◌, ◌<◌, List, length, subst, arith}
use Rattle.reconstruct.specs.Turned.{TakesEntry}
use Rattle.reconstruct.proofs.Turning.{takes_last}
use Rattle.reconstruct.proofs.queue.Queue.take.Goals as goal

pub returns-clause-ok : goal.returns-clause-ok
returns-clause-ok g c =
    let some : 0 < length c.self.inside.entries.items = rw c.self.view_is c.requires in
    let es = c.args.next.now.items in
    let taken = takes_last c.self.inside.entries.items es c.remove.new.self.items c.remove.result
    (c.len-last.result - 1) some (omega (arith, c.len-last.ensures, some))
    (rw c.in_ok-append.ensures.items at c.remove.ensures.value)
    (rw c.in_ok-append.ensures.items at c.remove.ensures.items) in
    subst (λ (old : List _). TakesEntry old c.remove.new.self.items es c.remove.result) c.self.view_is taken
