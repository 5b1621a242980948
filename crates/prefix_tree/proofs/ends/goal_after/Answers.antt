use Rattle.std.proofs.Common.{◌≡◌, ◌<◌, [], true, false, refl, arith}
use Rattle.prefix_tree.proofs.ends.goal_after.Goals as goal

pub returns-then-left-gt0 : goal.returns-then-left-gt0
returns-then-left-gt0 g c = (
  (λ e. absurd (not_true e)),
  (λ holds. let le = c.requires.left [] c.args.state.now refl holds in absurd (omega (arith, c.if-left-gt0.true, le))),
)
  where
    not_true : false ≡ true → ⊥
    not_true e = cc
