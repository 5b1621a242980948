use Rattle.std.proofs.Common.{◌≡◌, ◌%◌, ◌/◌, ◌<◌, ◌∙◌, sym, arith}
use Rattle.std.proofs.lemmas.Bool.{ltb-true, eqb-true}
use Rattle.var_order.specs.Layout.{bits}
use Rattle.bdd_sets.proofs.Members.{plain_even}
use Rattle.bdd_sets.proofs.member.bit_at.Goals as goal
use Rattle.bdd_sets.proofs.member.bit_at.Goals.{then-level-eq0, else-level-eq0}

pub returns-then-level-bits : goal.returns-then-level-bits
returns-then-level-bits c =
    let tests : (c.args.level % 2 ≡ 0) × (c.args.level / 2 < bits c.args.order.now) = elim c.if-level-eq0.branch [
      | then-level-eq0 w ↦ (
        w.if-level-eq0.true,
        (let h = ltb-true (c.args.level / 2) w.bits.result
            (sym w.value-is ∙ c.if-level-bits.true) in let e = w.bits.ensures.value in omega (arith, h, e)),
      )
      | else-level-eq0 w ↦ absurd (w.if-level-eq0.false (eqb-true (c.args.level % 2) 0 (sym w.value-is ∙ c.if-level-bits.true)))
    ] in
    λ b code. plain_even c.args.order.now b c.args.level c.bit.result tests.0 tests.1 (c.bit.ensures 0 b code)
