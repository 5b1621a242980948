-- Nodes that compare equal are equal, so they are hashed alike.
use Rattle.std.proofs.Common.{◌≡◌, ◌==◌, Bool, true, false, ◌&&◌, refl, sym, eqb-true, true≢false}
use Rattle.bdd_table.specs.declared.node.Node.{Node}

abbrev pub node_eq : Node → Node → Bool
node_eq x y = (x.level == y.level) && ((x.lo == y.lo) && (x.hi == y.hi))

both_true : (a b : Bool) → (a && b) ≡ true → (a ≡ true) × (b ≡ true)
both_true true true h = (refl, refl)
both_true true false h = absurd (true≢false (sym h))
both_true false b h = absurd (true≢false (sym h))

pub node_eq_same : (x y : Node) → node_eq x y ≡ true → x ≡ y
node_eq_same x y h =
    let p = both_true (x.level == y.level) ((x.lo == y.lo) && (x.hi == y.hi)) h in
    let q = both_true (x.lo == y.lo) (x.hi == y.hi) p.1 in
    let a = eqb-true x.level y.level p.0 in
    let b = eqb-true x.lo y.lo q.0 in
    let e = eqb-true x.hi y.hi q.1 in
    λ k. record { level = a k; lo = b k; hi = e k }
