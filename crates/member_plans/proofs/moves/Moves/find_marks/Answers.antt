use Rattle.std.proofs.Common.{List, OnOk, Option, sym, subst}
use Rattle.task_system.specs.System.{State}
use Rattle.stubborn_sets.specs.Stubborn.{Stubborn}
use Rattle.stubborn_sets.specs.Closing.{has_mark}
use Rattle.member_plans.specs.Kept.{HasMarksAt}
use Rattle.member_plans.specs.declared.kept.Marked.{Marked}
use Rattle.member_plans.proofs.Keeping.{still_stubborn}
use Rattle.member_plans.proofs.moves.Moves.find_marks.Goals as goal

pub returns-then-has_at-clause-found : goal.returns-then-has_at-clause-found
returns-then-has_at-clause-found c = subst (λ (xs : List (Option Marked)). HasMarksAt xs c.args.number c.args.state.now)
    c.deref.ensures.value (c.has_at.ensures c.if-has_at.true)

pub returns-clause-serves : goal.returns-clause-serves
returns-clause-serves c = λ y z.
    let w = c.make_marks.ensures.serves y z in
    let marked : Marked = record { state = c.in_ok-state.state; marks = c.in_ok-marks.marks } in
    let here = subst (λ (s : State). Stubborn y (has_mark c.in_ok-marks.marks.items) s) (sym c.in_ok-state.ensures) (c.in_ok-marks.ensures.stubborn y z) in
    record {
      system = w.system;
      lists = w.lists;
      rules = w.rules;
      sets = w.sets;
      kept = still_stubborn y c.make_marks.new.self.kept.items c.keep.new.kept.items marked w.kept c.keep.ensures.puts here;
    }

pub returns-clause-found : goal.returns-clause-found
returns-clause-found c = subst (λ (s : State). OnOk c.keep.result (HasMarksAt c.keep.new.kept.items c.args.number s)) c.in_ok-state.ensures c.keep.ensures.kept
