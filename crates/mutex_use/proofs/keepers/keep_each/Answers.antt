use Rattle.std.proofs.Common.{get_or, ◌∙◌}
use Rattle.std.proofs.lemmas.List.{get_or_default}
use Rattle.space_api.proofs.Trading.{trades_gives, trades_trans, gives_made, all_back}
use Rattle.mutex_use.proofs.Lists.{on_err}
use Rattle.mutex_use.proofs.Narrowing.{all_states, keeper_start, keeper_next, keeper_end}
use Rattle.mutex_use.proofs.keepers.keep_each.Goals as goal

pub groups-init : goal.groups-init
groups-init g c =
    let view = g.S.Space.view in
    let v = view c.args.space.now in
    let w = view c.all.new.self in
    record {
      task = c.all.ensures.makes.task;
      made = trades_gives c.in_ok-kept.kept c.all.ensures.makes.kept c.in_ok-kept.ensures.makes.ok;
      means = keeper_start c.args.task.now w c.in_ok-kept.kept c.args.groups.now
          (c.all.ensures.makes.task ∙ c.requires.task) (all_states v w c.in_ok-kept.kept
          (g.met.S.Space.of_task c.args.space.now) c.all.ensures.makes.task c.in_ok-kept.ensures.makes.ok);
    }

pub groups-preserved : goal.groups-preserved
groups-preserved g c =
    let view = g.S.Space.view in
    let v = view c.args.space.now in
    let w = view c.groups.space in
    let x = view c.keep_one.new.space in
    let group = get_or c.args.groups.now c.groups.i 0 in
    record {
      task = c.keep_one.ensures.task ∙ c.groups.invariant.task;
      made = trades_trans c.groups.invariant.made c.in_ok-kept-2.ensures.ok.trades;
      means = keeper_next c.args.task.now v w x c.args.all c.groups.kept c.in_ok-kept-2.kept c.args.groups.now
          c.groups.i group c.facts_of.result.now c.groups-test.true
          (get_or_default c.args.groups.now c.groups.i group 0 c.groups-test.true) c.facts_of.ensures.value
          (c.groups.invariant.task ∙ c.requires.task) c.groups.invariant.means c.in_ok-kept-2.ensures.ok;
    }

pub returns-clause-ok : goal.returns-clause-ok
returns-clause-ok g c =
    gives_made c.groups.invariant.made (λ s.
    let e = keeper_end c.args.task.now c.args.groups.now c.groups.i s c.groups-test.false in
    let m = c.groups.invariant.means s in
    ((λ h. e.0 (m.0 h)), (λ h. m.1 (e.1 h))))

pub returns-in_err-kept-2-clause-kept : goal.returns-in_err-kept-2-clause-kept
returns-in_err-kept-2-clause-kept g c = (all_back c.groups.invariant.made c.in_err-kept-2.ensures.err).kept

pub returns-in_err-kept-2-clause-err : goal.returns-in_err-kept-2-clause-err
returns-in_err-kept-2-clause-err g c = on_err c.from_residual-in_err-kept-2.result (all_back c.groups.invariant.made c.in_err-kept-2.ensures.err).only
