use Rattle.std.proofs.Common.{◌<◌, true, false, ◌≡◌, refl, arith}
use Rattle.prefix_tree.proofs.Operators.{back_less}
use Rattle.prefix_tree.proofs.Passing.{here, nowhere, up_same}
use Rattle.prefix_tree.proofs.tree.passes.Goals as goal

pub returns-then-here-state : goal.returns-then-here-state
returns-then-here-state c y m ss z once known =
    let is = c.node_at-here.ensures c.node_at-here.result in
    let h = here c.args.tree.now c.up.at c.node_at-here.result c.up.invariant.within is c.args.state y m ss z once known c.if-here-state.true in
    ((λ e. (c.up.invariant.same y m ss z once known).1 h), (λ l. refl))

pub returns-then-at-eq0 : goal.returns-then-at-eq0
returns-then-at-eq0 c y m ss z once known =
    let is = c.node_at-here.ensures c.node_at-here.result in
    let off = nowhere c.args.tree.now c.up.at c.node_at-here.result c.up.invariant.within is c.args.state y m ss z
    once known c.if-at-eq0.true c.if-here-state.false in
    ((λ e. absurd (not_true e)), (λ l. absurd (off ((c.up.invariant.same y m ss z once known).0 l))))
  where
    not_true : false ≡ true → ⊥
    not_true e = cc

pub up-smaller : goal.up-smaller
up-smaller c = back_less c.args.tree.now c.requires.linked c.up.at c.node_at-here.result c.up.invariant.within
    (c.node_at-here.ensures c.node_at-here.result) c.if-at-eq0.false

pub up-preserved : goal.up-preserved
up-preserved c =
    let is = c.node_at-here.ensures c.node_at-here.result in
    let less : c.node_at-here.result.parent < c.up.at = back_less c.args.tree.now c.requires.linked c.up.at
    c.node_at-here.result c.up.invariant.within is c.if-at-eq0.false in
    record {
      within = omega (arith, less, c.up.invariant.within);
      same = λ y m ss z once known.
          let u = up_same c.args.tree.now c.up.at c.node_at-here.result c.up.invariant.within is c.args.state y m ss z
          once known c.if-at-eq0.false c.if-here-state.false in
          let s = c.up.invariant.same y m ss z once known in
          ((λ h. u.0 (s.0 h)), (λ h. s.1 (u.1 h)));
    }
