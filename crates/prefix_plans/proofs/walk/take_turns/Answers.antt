use Rattle.std.proofs.Common.{◌∙◌, None, refl, sym, subst}
use Rattle.task_system.specs.System.{System}
use Rattle.symk_task.specs.declared.parts.Mode.TheVariants.{TopK}
use Rattle.lazy_plans.specs.Queue.{Right}
use Rattle.prefix_plans.specs.Left.{known_to_go}
use Rattle.prefix_plans.proofs.Replacing.{on_err}
use Rattle.prefix_plans.specs.Standing.{waiting_prefixes, KeepsPending}
use Rattle.prefix_plans.specs.Turned.{IsPrefixTurn}
use Rattle.prefix_plans.proofs.Ranging.{keeps_all}
use Rattle.prefix_plans.proofs.Walking.{keeps_trans, halts_same}
use Rattle.prefix_plans.proofs.walk.take_turns.Goals as goal

pub turns-init : goal.turns-init
turns-init g c = record {
  system = refl;
  ready = c.requires.ready;
  keeps = keeps_all (g.S.Space.view c.args.space.now).system c.args.most (waiting_prefixes c.args.front.now) c.requires.right;
}

pub take_turn-requires-clause-right : goal.take_turn-requires-clause-right
take_turn-requires-clause-right g c = subst (λ (y : System). Right y TopK c.args.most (waiting_prefixes c.turns.front))
    (sym c.turns.invariant.system) c.turns.invariant.keeps.right

pub turns-preserved : goal.turns-preserved
turns-preserved g c =
    let i = c.turns.invariant in
    let turned = rw c.in_default.is at c.in_ok-halt.ensures.ok in
    let same = subst (λ (y : System). IsPrefixTurn y (known_to_go c.args.search.now) c.args.most c.turns.front c.take_turn.new.front None) i.system turned in
    record {
      system = c.take_turn.ensures.system ∙ i.system;
      ready = c.take_turn.ensures.ready;
      keeps = keeps_trans i.keeps same.0;
    }

pub turns-smaller : goal.turns-smaller
turns-smaller g c =
    let t = rw c.in_default.is at c.in_ok-halt.ensures.ok in
    t.1

pub returns-in-Some-clause-ok : goal.returns-in-Some-clause-ok
returns-in-Some-clause-ok g c =
    let i = c.turns.invariant in
    halts_same (known_to_go c.args.search.now)
    (waiting_prefixes c.take_turn.new.front) c.in-Some.halt i.system i.keeps
    (rw c.in-Some.is at c.in_ok-halt.ensures.ok)

pub returns-in_err-halt-clause-err : goal.returns-in_err-halt-clause-err
returns-in_err-halt-clause-err g c =
    let i = c.turns.invariant in
    let keeps = subst (λ (y : System). KeepsPending y c.args.most (waiting_prefixes c.turns.front)
    (waiting_prefixes c.take_turn.new.front)) i.system c.in_err-halt.ensures.err in
    on_err c.from_residual.result (keeps_trans i.keeps keeps)
