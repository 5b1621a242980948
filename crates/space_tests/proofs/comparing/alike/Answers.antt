use Rattle.std.proofs.Common.{◌≡◌, ◌∙◌, length, take, All, sym, ap, subst, refl, arith}
use Rattle.std.proofs.Math.Nat.{le_antisymm}
use Rattle.std.proofs.Math.Seq.{take-length}
use Rattle.std.proofs.lemmas.List.Elements.{All-more}
use Rattle.space_tests.specs.Answers.{IsSameBeside}
use Rattle.space_tests.proofs.Moving.{amid_at}
use Rattle.space_tests.proofs.comparing.alike.Goals as goal

pub same_beside-requires-clause-other_left : goal.same_beside-requires-clause-other_left
same_beside-requires-clause-other_left g c = c.requires.kept.left.valid c.index-pairs-i.result.left (amid_at (λ p. p.left) c.args.pairs.now c.pairs.i c.index-pairs-i.result (omega arith) c.index-pairs-i.is)

pub same_beside-requires-clause-other_right : goal.same_beside-requires-clause-other_right
same_beside-requires-clause-other_right g c = c.requires.kept.right.valid c.index-pairs-i.result.right (amid_at (λ p. p.right) c.args.pairs.now c.pairs.i c.index-pairs-i.result (omega arith) c.index-pairs-i.is)

pub returns-then-not-same_beside : goal.returns-then-not-same_beside
returns-then-not-same_beside g c =
    let Beside = IsSameBeside (g.A.Space.view c.args.a.now) (g.B.Space.view c.args.b.now) c.args.pair in (
      (λ t. cc),
      (λ all. let yes = c.same_beside.ensures.1 (subst Beside (sym c.index-pairs-i.is) (all.beside c.pairs.i c.index-pairs-i.result (omega arith))) in cc),
    )

pub pairs-preserved : goal.pairs-preserved
pairs-preserved g c =
    let Beside = IsSameBeside (g.A.Space.view c.args.a.now) (g.B.Space.view c.args.b.now) c.args.pair in
    All-more Beside c.args.pairs.now c.pairs.i c.index-pairs-i.result (omega arith) c.pairs.invariant (subst Beside c.index-pairs-i.is (c.same_beside.ensures.0 c.if-not-same_beside.false))

pub returns : goal.returns
returns g c =
    let Beside = IsSameBeside (g.A.Space.view c.args.a.now) (g.B.Space.view c.args.b.now) c.args.pair in
    let full : c.pairs.i ≡ length c.args.pairs.now = le_antisymm (omega arith) (omega arith) in (
      (λ t. record {
        alone = c.same_alone.ensures.0 c.if-not-same_alone.false;
        beside = subst (All Beside) (ap (λ n. take n c.args.pairs.now) full ∙ take-length c.args.pairs.now) c.pairs.invariant;
      }),
      (λ all. refl),
    )
