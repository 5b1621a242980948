use Rattle.std.proofs.Common.{◌≡◌, arith, length}
use Rattle.symk_text.specs.Lines.{lines}
use Rattle.symk_text.proofs.Cutting.{NoFeed, no_feed_more, one_line_more, with_last, without_last, lines_are_lines, piece_is_line}
use Rattle.symk_text.proofs.lines.lines_of.Goals as goal
use Rattle.symk_text.proofs.lines.lines_of.Goals.{then-bytes-at-eq10+in_ok-push, else-bytes-at-eq10, then-not-is_empty+in_ok-push-2, else-not-is_empty}

pub loop-at-preserved : goal.loop-at-preserved
loop-at-preserved c =
    elim c.if-bytes-at-eq10.branch [
      | then-bytes-at-eq10+in_ok-push w ↦ rw (w.items-is, w.from-is) (record {
        within = omega arith;
        none = λ k low high. absurd (omega arith);
        so_far = rw (w.in_ok-push.ensures.items, w.of.ensures, w.without_return.ensures)
            (one_line_more c.args.bytes.now c.loop-at.items.items c.loop-at.from c.loop-at.at
            c.loop-at.invariant.within c.loop-at-test.true w.if-bytes-at-eq10.true c.loop-at.invariant.none
            c.loop-at.invariant.so_far);
      })
      | else-bytes-at-eq10 w ↦ rw (w.items-is, w.from-is) (record {
        within = omega arith;
        none = no_feed_more c.args.bytes.now c.loop-at.from c.loop-at.at c.loop-at.invariant.none w.if-bytes-at-eq10.false;
        so_far = c.loop-at.invariant.so_far;
      })
    ]

none_left : (c : goal.Joined-not-is_empty) → NoFeed c.args.bytes.now c.loop-at.from (length c.args.bytes.now)
none_left c = λ k low high. c.loop-at.invariant.none k low (omega arith)

whole : (c : goal.Joined-not-is_empty) → c.if-not-is_empty.items.items ≡ lines c.args.bytes.now
whole c =
    elim c.if-not-is_empty.branch [
      | then-not-is_empty+in_ok-push-2 w ↦ rw (
        w.items-is,
        w.in_ok-push-2.ensures.items,
        w.of-then-not-is_empty.ensures,
        w.without_return-then-not-is_empty.ensures,
      )
          (with_last c.args.bytes.now c.loop-at.items.items c.loop-at.from
          (let t = w.if-not-is_empty.true in cc (c.is_empty.ensures, t)) (none_left c)
          c.loop-at.invariant.so_far)
      | else-not-is_empty w ↦ rw w.items-is (without_last c.args.bytes.now c.loop-at.items.items c.loop-at.from
          (let t = w.if-not-is_empty.false in cc (c.is_empty.ensures, t)) c.loop-at.invariant.so_far)
    ]

pub returns : goal.returns
returns c = whole c

pub invariant_of-result : goal.invariant_of-result
invariant_of-result c = rw (whole c) (lines_are_lines c.args.bytes.now)

pub of-requires : goal.of-requires
of-requires c = rw c.without_return.ensures (piece_is_line c.args.bytes.now c.loop-at.from c.loop-at.at
    c.loop-at.invariant.within (omega arith) c.loop-at.invariant.none)

pub of-requires-then-not-is_empty : goal.of-requires-then-not-is_empty
of-requires-then-not-is_empty c = rw c.without_return-then-not-is_empty.ensures
    (piece_is_line c.args.bytes.now c.loop-at.from (length c.args.bytes.now) (omega arith) (omega arith)
    (λ k low high. c.loop-at.invariant.none k low (omega arith)))
