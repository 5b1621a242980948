use Rattle.std.proofs.Common.{refl, None}
use Rattle.bidirectional.specs.Both.{front_layers, back_layers}
use Rattle.reconstruct.specs.declared.next_plan.Agenda.{Agenda}
use Rattle.lazy_plans.specs.Shell.{shell_held}
use Rattle.reconstruct.proofs.Asks.{engine_begins, pends_all}
use Rattle.reconstruct.proofs.beginning.begin.Goals as goal

pub returns : goal.returns
returns g c =
    let view = g.S.Space.view in
    let u = view c.args.space in
    let v = view c.both_of.new.space in
    let both = c.in_ok-both.both in
    let t = c.in_ok-both.ensures.trades in
    let agenda : Agenda _ = record { listed = None; queue = c.new.result; memo = c.new-2.result } in
    record {
      lawful = engine_begins {u = u} {v = v} agenda c.requires t c.in_ok-both.ensures.both refl c.new.ensures c.new-2.ensures c.new-3.ensures;
      system = t.system;
      most_is = c.new-3.ensures.wanted;
      all = pends_all u v (front_layers both) (back_layers both) agenda.queue (shell_held c.new-3.result) c.new-3.ensures.free t.system;
      goes_on = c.new-3.ensures.goes_on;
    }
