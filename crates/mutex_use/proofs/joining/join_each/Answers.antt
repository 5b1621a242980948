use Rattle.std.proofs.Common.{get_or, ◌∙◌}
use Rattle.space_api.proofs.Trading.{trades_gives, trades_trans, kept_made, all_back}
use Rattle.mutex_use.proofs.Narrowing.{all_states}
use Rattle.mutex_use.proofs.Alone.{keepers_start, keepers_next, all_after}
use Rattle.mutex_use.proofs.joining.join_each.Goals as goal

pub groups-init : goal.groups-init
groups-init g c =
    let view = g.S.Space.view in
    let v = view c.args.space.now in
    let w = view c.all.new.self in
    let kept = c.in_ok-kept.kept in
    record {
      task = c.all.ensures.makes.task;
      made = trades_gives kept c.all.ensures.makes.kept c.in_ok-kept.ensures.makes.ok;
      means = keepers_start w c.args.task.now kept (c.all.ensures.makes.task ∙ c.requires.task)
          (all_states v w kept (g.met.S.Space.of_task c.args.space.now) c.all.ensures.makes.task
          c.in_ok-kept.ensures.makes.ok);
    }

pub joined-requires-clause-all : goal.joined-requires-clause-all
joined-requires-clause-all g c =
    let view = g.S.Space.view in
    all_after (view c.args.space.now) (view c.groups.space) c.args.all (kept_made c.groups.invariant.made)
    c.requires.valid c.groups.invariant.task c.requires.all

pub returns-in_err-kept-2-clause-kept : goal.returns-in_err-kept-2-clause-kept
returns-in_err-kept-2-clause-kept g c = (all_back c.groups.invariant.made c.in_err-kept-2.ensures.err).kept

pub groups-preserved : goal.groups-preserved
groups-preserved g c =
    let group = get_or c.args.groups.now c.groups.i 0 in
    record {
      task = c.joined.ensures.task ∙ c.groups.invariant.task;
      made = trades_trans c.groups.invariant.made c.in_ok-kept-2.ensures.ok.trades;
      means = keepers_next c.args.task.now group c.groups.kept c.in_ok-kept-2.kept c.groups.invariant.means c.in_ok-kept-2.ensures.ok;
    }
