use Rattle.std.proofs.Common.{◌≡◌, ℕ, [], length, subst, arith}
use Rattle.bdd_sets.proofs.Passing.{PassesBelow, passes_none, passes_all, none_known}
use Rattle.bdd_sets.proofs.walking.pass.Goals as goal

pub ids-init : goal.ids-init
ids-init c =
    let nodes = c.args.table.now in
    rw c.clear.ensures.items (passes_none nodes c.args.block c.args.start c.args.ids.now [] c.args.marks.now.items (none_known nodes))

pub returns : goal.returns
returns c =
    let nodes = c.args.table.now in
    let block = c.args.block in
    let start = c.args.start in
    let ids = c.args.ids.now in
    let old = c.args.marks.now.items in
    let marks = c.ids.marks.items in
    let all : c.ids.id-index ≡ length ids = (let t = c.ids-test.false in let e = c.ids.auto.id-index-end in omega (arith, t, e)) in
    let done = subst (λ (n : ℕ). PassesBelow nodes block start ids c.ids.ends.items old marks n) all c.ids.invariant in
    passes_all nodes block start ids c.ids.ends.items c.once.new.ends.items old marks done c.once.ensures
