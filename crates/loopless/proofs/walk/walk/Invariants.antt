use Rattle.std.proofs.Common.{◌≡◌}
use Rattle.lazy_plans.specs.Queue.{Right, Pending}
use Rattle.lazy_plans.specs.Law.{PendsAlike}
use Rattle.symk_task.specs.declared.parts.Mode.TheVariants.{Loopless}
use Rattle.loopless.specs.Front.{prefixes_of}
use Rattle.loopless.specs.Standing.{IsLooplessReady, work}
use Rattle.loopless.proofs.walk.walk.Given as goal

abbrev pub invariant-turns : goal.invariant-turns
invariant-turns g l =
    let view = g.S.Space.view in
    let y = (view l.fn.space).system in
    record {
      system : (view l.space).system ≡ y;
      ready : IsLooplessReady (view l.space) l.backward l.front;
      right : Right y Loopless l.most (prefixes_of l.front);
      stays : PendsAlike (Pending y Loopless (prefixes_of l.fn.front)) (Pending y Loopless (prefixes_of l.front));
    }

abbrev pub decreases-turns : goal.decreases-turns
decreases-turns g l = work (g.S.Space.view l.fn.space).system l.front
