use Rattle.std.proofs.Common.{sym, ◌∙◌, below_more}
use Rattle.std.proofs.lemmas.Bool.{false≢true}
use Rattle.stubborn_sets.specs.Reading.{AllowsValue}
use Rattle.stubborn_sets.specs.Meeting.{MeetAt}
use Rattle.stubborn_sets.proofs.meeting.meet_each.Goals as goal
use Rattle.stubborn_sets.proofs.meeting.meet_each.Goals.{else-allows_value-via-then-allows_value+then-allows_value-2+else-not-meet_at, else-allows_value-via-then-allows_value+else-allows_value-2, else-allows_value-via-else-allows_value}

pub loop-val-preserved : goal.loop-val-preserved
loop-val-preserved c =
    let one = c.args.one.now in
    let other = c.args.other.now in
    below_more (λ val. AllowsValue one c.args.var val → AllowsValue other c.args.var val
    → MeetAt c.args.parts.now one other c.args.var val) c.loop-val.val c.loop-val.invariant
    (λ a b. elim c.else-allows_value.branch [
      | else-allows_value-via-then-allows_value+then-allows_value-2+else-not-meet_at w ↦ w.meet_at.ensures.0 w.if-not-meet_at.false
      | else-allows_value-via-then-allows_value+else-allows_value-2 w ↦ absurd
          (false≢true (sym w.if-allows_value-2.false ∙ w.allows_value-then-allows_value.ensures.1 b))
      | else-allows_value-via-else-allows_value w ↦ absurd (false≢true (sym w.if-allows_value.false ∙ c.allows_value.ensures.1 a))
    ])
