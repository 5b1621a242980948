use Rattle.bdd_ops.proofs.Combining.{choice_meaning}
use Rattle.bdd_ops.proofs.ops.Ops.choice.Goals as goal

pub returns-clause-meaning : goal.returns-clause-meaning
returns-clause-meaning c =
    choice_meaning
    (record {
      first = c.know_reduced.ensures;
      second = c.node.ensures.reduced;
      third = c.apply.ensures.reduced;
      fourth = c.apply-2.ensures.reduced;
      to_second = c.node.ensures.grows;
      to_third = c.apply.ensures.grows;
      to_fourth = c.apply-2.ensures.grows;
    })
    (record {
      lo_known = c.requires.lo;
      hi_known = c.requires.hi;
      bit_known = c.in_ok-bit.ensures.known;
      is_bit = c.in_ok-bit.ensures.meaning;
      both = c.in_ok-there.ensures.ok;
      left = c.in_ok-else_there.ensures.ok;
    }) c.apply-3.new.self c.apply-3.result c.apply-3.ensures.ok
