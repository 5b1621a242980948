use Rattle.std.proofs.Common.{◌≡◌, ℕ, ◌-◌, ◌≤◌, ◌∙◌, List, Option, Some, None, sym, subst}
use Rattle.std.specs.Prelude.{All}
use Rattle.std.proofs.lemmas.Bool.{false≢true}
use Rattle.std.proofs.lemmas.Option.{MatchOption-at_none, MatchOption-at_some}
use Rattle.symk_task.specs.declared.parts.Mode.{Mode}
use Rattle.symk_task.specs.Plans.{IsPlan, Same, cost_of}
use Rattle.task_run.specs.Verdicts.{Misses}
use Rattle.plan_out.specs.declared.blocks.ReadBlock.{ReadBlock}
use Rattle.plan_out.specs.declared.seen.Seen.{Seen}
use Rattle.plan_out.specs.Fails.{IsCostLine, IsFirstSame}
use Rattle.plan_out.specs.Checks.{IsKey, first_of, IsNoted, IsSeen, Passes, WalksBack}
use Rattle.plan_out.proofs.OneRun.{miss_no_stop, first_loop}
use Rattle.plan_out.proofs.Reasons.{clear_operators, clear_names, clear_steps, clear_plan, clear_cost, clear_repeats, clear_rising}
use Rattle.plan_out.proofs.Noting.{NotesNext, seen_more, cheaper, not_cheaper}
use Rattle.plan_out.proofs.check.check_next.Goals as goal

-- what is noted of a plan's key, where no earlier block has it
none_noted : (mode : Mode) (blocks : List ReadBlock) (seen : Seen) (p key : List ℕ) → IsSeen mode blocks seen
    → IsKey mode p key → first_of seen key ≡ None → All (λ b. ¬ Same mode b.ops p) blocks
none_noted mode blocks seen p key h is e = MatchOption-at_none (All (λ b. ¬ Same mode b.ops p) blocks)
    (λ number. (1 ≤ number) × IsFirstSame mode blocks p (number - 1)) e (h.first p key is)

-- and where one has
one_noted : (mode : Mode) (blocks : List ReadBlock) (seen : Seen) (p key : List ℕ) (earlier : ℕ)
    → IsSeen mode blocks seen → IsKey mode p key → first_of seen key ≡ Some earlier → (1 ≤ earlier)
    × IsFirstSame mode blocks p (earlier - 1)
one_noted mode blocks seen p key earlier h is e = MatchOption-at_some (All (λ b. ¬ Same mode b.ops p) blocks)
    (λ number. (1 ≤ number) × IsFirstSame mode blocks p (number - 1)) earlier e (h.first p key is)

pub returns-in-MissesGoal-clause-next : goal.returns-in-MissesGoal-clause-next
returns-in-MissesGoal-clause-next c = (λ before seen count.
    let task = c.args.task.now in
    let b = c.args.block.now in
    let mode = c.args.mode in
    let misses : Misses task b.ops = rw c.in-MissesGoal.is at c.in_ok-step.ensures in
    let good = c.in-None.ensures.spelling in (
      misses,
      clear_steps task mode before b (clear_names task mode before b
          (clear_operators task mode before b good.0) good.1)
          (miss_no_stop task b.ops c.misspelled.ensures.fits misses),
    ))

pub returns-then-not-cost_fits-clause-next : goal.returns-then-not-cost_fits-clause-next
returns-then-not-cost_fits-clause-next c = (λ before seen count.
    let task = c.args.task.now in
    let b = c.args.block.now in
    let mode = c.args.mode in
    let reached : IsPlan task b.ops × WalksBack task mode b.ops c.in-Reaches.back = rw c.in-Reaches.is at c.in_ok-step.ensures in
    let other : ¬ IsCostLine task b c.plan_cost-cost.result = (λ line. false≢true (sym c.if-not-cost_fits.true ∙ c.cost_fits.ensures.1 line)) in
    ((c.plan_cost-cost.ensures, other), clear_plan task mode before b c.misspelled.ensures.fits c.in-None.ensures.spelling reached.0))

pub returns-in-Some-2-clause-next : goal.returns-in-Some-2-clause-next
returns-in-Some-2-clause-next c = (λ before seen count.
    let task = c.args.task.now in
    let b = c.args.block.now in
    let mode = c.args.mode in
    let reached : IsPlan task b.ops × WalksBack task mode b.ops c.in-Reaches.back = rw c.in-Reaches.is at c.in_ok-step.ensures in
    let line : IsCostLine task b (cost_of task b.ops) = subst (λ (n : ℕ). IsCostLine task b n)
    c.plan_cost-cost.ensures (c.cost_fits.ensures.0 c.if-not-cost_fits.false) in
    let clear = clear_cost task mode before b (clear_plan task mode before b c.misspelled.ensures.fits c.in-None.ensures.spelling reached.0) line in (
      one_noted mode before c.args.seen.now b.ops c.in_ok-key_of.field-0 c.in-Some-2.earlier seen
          c.in_ok-key_of.ensures (sym c.in_ok-earlier.ensures.found ∙ c.in-Some-2.is),
      clear,
    ))

pub returns-then-is_cheaper-clause-next : goal.returns-then-is_cheaper-clause-next
returns-then-is_cheaper-clause-next c = (λ before seen count.
    let task = c.args.task.now in
    let b = c.args.block.now in
    let mode = c.args.mode in
    let reached : IsPlan task b.ops × WalksBack task mode b.ops c.in-Reaches.back = rw c.in-Reaches.is at c.in_ok-step.ensures in
    let line : IsCostLine task b (cost_of task b.ops) = subst (λ (n : ℕ). IsCostLine task b n)
    c.plan_cost-cost.ensures (c.cost_fits.ensures.0 c.if-not-cost_fits.false) in
    let clear = clear_cost task mode before b (clear_plan task mode before b c.misspelled.ensures.fits c.in-None.ensures.spelling reached.0) line in
    let absent : first_of c.args.seen.now c.in_ok-key_of.field-0 ≡ None = sym c.in_ok-earlier.ensures.found ∙ c.in-None-2.is in
    let once = none_noted mode before c.args.seen.now b.ops c.in_ok-key_of.field-0 seen c.in_ok-key_of.ensures absent in
    let noted : IsNoted c.args.seen.now c.note.new.self c.in_ok-key_of.field-0 c.args.plan = rw c.in-None-2.is at c.in_ok-earlier.ensures.noted in (
      cheaper before b c.note.new.self.cost (noted.1 ∙ seen.cost)
          (c.is_cheaper.ensures.cheaper.0 c.if-is_cheaper.true),
      clear_repeats task mode before b clear once,
    ))

pub returns-in-Some-back-clause-next : goal.returns-in-Some-back-clause-next
returns-in-Some-back-clause-next c = (λ before seen count.
    let task = c.args.task.now in
    let b = c.args.block.now in
    let mode = c.args.mode in
    let reached : IsPlan task b.ops × WalksBack task mode b.ops c.in-Reaches.back = rw c.in-Reaches.is at c.in_ok-step.ensures in
    let line : IsCostLine task b (cost_of task b.ops) = subst (λ (n : ℕ). IsCostLine task b n)
    c.plan_cost-cost.ensures (c.cost_fits.ensures.0 c.if-not-cost_fits.false) in
    let clear = clear_cost task mode before b (clear_plan task mode before b c.misspelled.ensures.fits c.in-None.ensures.spelling reached.0) line in
    let absent : first_of c.args.seen.now c.in_ok-key_of.field-0 ≡ None = sym c.in_ok-earlier.ensures.found ∙ c.in-None-2.is in
    let once = none_noted mode before c.args.seen.now b.ops c.in_ok-key_of.field-0 seen c.in_ok-key_of.ensures absent in
    let noted : IsNoted c.args.seen.now c.note.new.self c.in_ok-key_of.field-0 c.args.plan = rw c.in-None-2.is at c.in_ok-earlier.ensures.noted in
    let rising = not_cheaper before b c.note.new.self.cost (noted.1 ∙ seen.cost)
    (λ low. false≢true (sym c.if-is_cheaper.false ∙ c.is_cheaper.ensures.cheaper.1 low)) in
    let back : WalksBack task mode b.ops (Some c.in-Some-back.step) = subst (λ (o : Option ℕ). WalksBack task mode b.ops o) c.in-Some-back.is reached.1 in
    (first_loop task mode b.ops c.in-Some-back.step back, clear_rising task mode before b (clear_repeats task mode before b clear once) rising))

pub returns-in-None-back-clause-next : goal.returns-in-None-back-clause-next
returns-in-None-back-clause-next c = (λ before seen count.
    let task = c.args.task.now in
    let b = c.args.block.now in
    let mode = c.args.mode in
    let good = c.in-None.ensures.spelling in
    let reached : IsPlan task b.ops × WalksBack task mode b.ops c.in-Reaches.back = rw c.in-Reaches.is at c.in_ok-step.ensures in
    let line : IsCostLine task b (cost_of task b.ops) = subst (λ (n : ℕ). IsCostLine task b n)
    c.plan_cost-cost.ensures (c.cost_fits.ensures.0 c.if-not-cost_fits.false) in
    let key = c.in_ok-key_of.field-0 in
    let absent : first_of c.args.seen.now key ≡ None = sym c.in_ok-earlier.ensures.found ∙ c.in-None-2.is in
    let once = none_noted mode before c.args.seen.now b.ops key seen c.in_ok-key_of.ensures absent in
    let noted : IsNoted c.args.seen.now c.note.new.self key c.args.plan = rw c.in-None-2.is at c.in_ok-earlier.ensures.noted in
    let rising = not_cheaper before b c.note.new.self.cost (noted.1 ∙ seen.cost)
    (λ low. false≢true (sym c.if-is_cheaper.false ∙ c.is_cheaper.ensures.cheaper.1 low)) in
    let back : WalksBack task mode b.ops None = subst (λ (o : Option ℕ). WalksBack task mode b.ops o) c.in-None-back.is reached.1 in
    let passes : Passes task mode before b = record {
      operators = good.0;
      names = good.1;
      plan = reached.0;
      cost =
          line;
      once = once;
      rising = rising;
      back = back;
    } in
    let notes : NotesNext mode before b key c.args.plan c.args.seen.now c.note.new.self c.is_cheaper.new.self = record {
      is = c.in_ok-key_of.ensures;
      absent = absent;
      adds = noted;
      place = count;
      first = c.is_cheaper.ensures.first;
      cost = c.is_cheaper.ensures.cost;
    } in
    (passes, seen_more seen notes))
