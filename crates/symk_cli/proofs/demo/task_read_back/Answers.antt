use Rattle.symk_cli.proofs.ReadBack.{read_back, not_refused}
use Rattle.symk_cli.proofs.demo.task_read_back.Goals as goal

pub returns-in-Ok : goal.returns-in-Ok
returns-in-Ok c = read_back c.deref.result.now c.in_ok-text.text.items c.in-Ok.task _ _ (cc) c.in_ok-text.ensures.file c.in-Ok.ensures.file c.in_ok-switches.ensures

pub unreachable-requires : goal.unreachable-requires
unreachable-requires c =
    not_refused c.deref.result.now c.in_ok-text.text.items _ c.in-Err-Offence.field-0 _ _ (cc) c.in_ok-text.ensures.file c.in-Err-Offence.field-0-is c.in-Err-Offence.ensures.offence
