use Rattle.std.proofs.Common.{◌-◌, ◌<◌, List, length, subst, arith}
use Rattle.reconstruct.specs.Turned.{IsLast}
use Rattle.reconstruct.proofs.Turning.{last_is}
use Rattle.reconstruct.proofs.queue.Queue.last.Goals as goal

pub returns : goal.returns
returns g c =
    let some : 0 < length c.self.inside.entries.items = rw c.self.view_is c.requires in
    subst (λ (es : List _). IsLast es c.index.result.now) c.self.view_is
    (last_is c.self.inside.entries.items c.index.result.now (c.len.result - 1) some
    (omega (arith, c.len.ensures, some)) c.index.ensures)
