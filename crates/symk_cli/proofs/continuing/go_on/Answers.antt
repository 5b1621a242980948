use Rattle.std.proofs.Common.{refl}
use Rattle.plan_out.specs.declared.check.Checked.TheVariants.{Bad}
use Rattle.run_status.specs.declared.status.Status.TheVariants as status
use Rattle.symk_cli.specs.Goes.{IsBad}
use Rattle.symk_cli.specs.Verdicts.{verdict_text}
use Rattle.run_status.proofs.Puts.{text_puts}
use Rattle.symk_cli.proofs.Continued.{earlier_is, list_goes, bad_goes, memory_goes}
use Rattle.symk_cli.proofs.continuing.go_on.Goals as goal

pub list_found-requires : goal.list_found-requires
list_found-requires g c =
    let made = c.in-Ok.ensures in
    record {
      least = c.requires.least;
      count = c.requires.count;
      limit = tt;
      earlier = earlier_is c.args.task.now c.args.mode c.args.blocks.now.list c.in-Ok.earlier _ c.parts.ensures.fits
          (rw c.in-Ok-Good.field-0-is at c.in-Ok-Good.ensures) made.plans made.dearest made.few made.cheap made.held;
    }

pub returns-in-Ok-clause-goes : goal.returns-in-Ok-clause-goes
returns-in-Ok-clause-goes g c =
    list_goes c.args.task.now c.args.mode c.args.blocks.now.list c.args.wanted c.in-Ok.earlier.plans _ (g.K.Sink.view c.args.sink.now) (g.K.Sink.view c.list_found.new.sink) _
    (rw c.in-Ok-Good.field-0-is at c.in-Ok-Good.ensures) c.in-Ok.ensures.plans c.list_found.ensures.lists

pub returns-in-Err-earlier_of-clause-goes : goal.returns-in-Err-earlier_of-clause-goes
returns-in-Err-earlier_of-clause-goes g c = memory_goes c.args.task.now c.args.mode c.args.blocks.now.list c.args.wanted (g.K.Sink.view c.args.sink.now)

pub returns-in-Ok-Bad-clause-goes : goal.returns-in-Ok-Bad-clause-goes
returns-in-Ok-Bad-clause-goes g c =
    let old = g.K.Sink.view c.args.sink.now in
    let new = g.K.Sink.view c.end_with.new.sink in
    let verdict = text_puts (IsBad c.args.task.now c.args.mode c.args.blocks.now.list) status.BadList _ (verdict_text (Bad c.in-Ok-Bad.plan c.in-Ok-Bad.why)) old new c.end_with.result c.bad_text.ensures
    (refl, record { found = Bad c.in-Ok-Bad.plan c.in-Ok-Bad.why; finds = rw c.in-Ok-Bad.field-0-is at c.in-Ok-Bad.ensures; says = refl; text = refl }) c.end_with.ensures.ends in
    bad_goes c.args.task.now c.args.mode c.args.blocks.now.list c.args.wanted old new _ verdict

pub returns-in-Err-clause-goes : goal.returns-in-Err-clause-goes
returns-in-Err-clause-goes g c = memory_goes c.args.task.now c.args.mode c.args.blocks.now.list c.args.wanted (g.K.Sink.view c.args.sink.now)
