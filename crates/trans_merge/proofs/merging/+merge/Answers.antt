use Rattle.std.proofs.Common.{◌≡◌, ◌/◌, ℕ, ◌++◌, List, sym, ap, subst, arith}
use Rattle.std.specs.List.{All}
use Rattle.bdd_table.proofs.Adding.{ok_by}
use Rattle.axiom_layers.proofs.RootValues.{keeps_itself}
use Rattle.transitions.specs.declared.relations.Relation.{Relation}
use Rattle.trans_merge.specs.Merging.{IsRelation, Merges, IsHalved}
use Rattle.trans_merge.proofs.Found.{halves_of}
use Rattle.trans_merge.proofs.Halved.{halved_all, halved_few, halved_kept, halved_combined}
use Rattle.trans_merge.proofs.Merged.{front_holds, behind_holds, relations_kept, merges_few, merges_kept, merges_since, merges_combined}
use Rattle.trans_merge.proofs.merging.+merge.Goals as goal

pub returns-then-len-lt2-clause-merges : goal.returns-then-len-lt2-clause-merges
returns-then-len-lt2-clause-merges t c =
    merges_few c.args.order.now c.args.bound c.args.ops.now c.args.ops.now c.args.relations.items
    (keeps_itself c.args.ops.now) c.requires (let a = c.len.ensures in let b = c.args.relations.ok.0 in
    let d = c.if-len-lt2.true in omega (arith, a, b, d))

pub returns-then-len-lt2-clause-halved : goal.returns-then-len-lt2-clause-halved
returns-then-len-lt2-clause-halved t c =
    halved_few c.args.order.now c.args.bound c.args.ops.now c.args.relations.items
    (let a = c.len.ensures in let b = c.args.relations.ok.0 in
    let d = c.if-len-lt2.true in omega (arith, a, b, d))

pub merge-requires-2 : goal.merge-requires-2
merge-requires-2 t c =
    let o = c.args.order.now in
    let start = c.args.ops.now in
    let first = c.split_off.new.self.items in
    let second = c.in_ok-second.second.items in
    let all = c.args.relations.items in
    let n = c.len.result in
    let h = halves_of all first second n (c.len-half.result / 2)
    (let a = c.len.ensures in let b = c.args.relations.ok.0 in omega (arith, a, b))
    (let d = c.if-len-lt2.false in omega (arith, d)) (let a = c.len-half.ensures in let b = c.len.ensures in
    let e : c.len-half.result ≡ n = omega (arith, a, b) in ap (λ (k : ℕ). k / 2) e) c.in_ok-second.ensures.items
    c.in_ok-second.ensures.tail in
    let known : All (IsRelation o start) (first ++ second) = subst (λ (rs : List Relation). All (IsRelation o start) rs) (sym h.whole) c.requires in
    let one = front_holds (IsRelation o start) first second known in
    let two = behind_holds (IsRelation o start) first second known in
    let mid = c.merge.new.ops in
    let one_mid = relations_kept o start mid first c.in_ok-left.ensures.kept one in
    let two_mid = relations_kept o start mid second c.in_ok-left.ensures.kept two in
    (let f = h.fewer in omega (arith, f), two_mid)

pub combine-requires-clause-left : goal.combine-requires-clause-left
combine-requires-clause-left t c =
    let o = c.args.order.now in
    let start = c.args.ops.now in
    let first = c.split_off.new.self.items in
    let second = c.in_ok-second.second.items in
    let all = c.args.relations.items in
    let n = c.len.result in
    let h = halves_of all first second n (c.len-half.result / 2)
    (let a = c.len.ensures in let b = c.args.relations.ok.0 in omega (arith, a, b))
    (let d = c.if-len-lt2.false in omega (arith, d)) (let a = c.len-half.ensures in let b = c.len.ensures in
    let e : c.len-half.result ≡ n = omega (arith, a, b) in ap (λ (k : ℕ). k / 2) e) c.in_ok-second.ensures.items
    c.in_ok-second.ensures.tail in
    let known : All (IsRelation o start) (first ++ second) = subst (λ (rs : List Relation). All (IsRelation o start) rs) (sym h.whole) c.requires in
    let one = front_holds (IsRelation o start) first second known in
    let two = behind_holds (IsRelation o start) first second known in
    let mid = c.merge.new.ops in
    let one_mid = relations_kept o start mid first c.in_ok-left.ensures.kept one in
    let two_mid = relations_kept o start mid second c.in_ok-left.ensures.kept two in
    let old = c.merge-2.new.ops in
    let left = c.in_ok-left.left.items in
    let right = c.in_ok-right.right.items in
    let l = c.in_ok-left.ensures in
    let r = c.in_ok-right.ensures in
    let two_old = relations_kept o mid old second r.kept two_mid in
    relations_kept o mid old left r.kept (halved_all o c.args.bound mid first left one_mid l.halved)

pub combine-requires-clause-right : goal.combine-requires-clause-right
combine-requires-clause-right t c =
    let o = c.args.order.now in
    let start = c.args.ops.now in
    let first = c.split_off.new.self.items in
    let second = c.in_ok-second.second.items in
    let all = c.args.relations.items in
    let n = c.len.result in
    let h = halves_of all first second n (c.len-half.result / 2)
    (let a = c.len.ensures in let b = c.args.relations.ok.0 in omega (arith, a, b))
    (let d = c.if-len-lt2.false in omega (arith, d)) (let a = c.len-half.ensures in let b = c.len.ensures in
    let e : c.len-half.result ≡ n = omega (arith, a, b) in ap (λ (k : ℕ). k / 2) e) c.in_ok-second.ensures.items
    c.in_ok-second.ensures.tail in
    let known : All (IsRelation o start) (first ++ second) = subst (λ (rs : List Relation). All (IsRelation o start) rs) (sym h.whole) c.requires in
    let one = front_holds (IsRelation o start) first second known in
    let two = behind_holds (IsRelation o start) first second known in
    let mid = c.merge.new.ops in
    let one_mid = relations_kept o start mid first c.in_ok-left.ensures.kept one in
    let two_mid = relations_kept o start mid second c.in_ok-left.ensures.kept two in
    let old = c.merge-2.new.ops in
    let left = c.in_ok-left.left.items in
    let right = c.in_ok-right.right.items in
    let l = c.in_ok-left.ensures in
    let r = c.in_ok-right.ensures in
    let two_old = relations_kept o mid old second r.kept two_mid in
    halved_all o c.args.bound old second right two_old r.halved

pub returns-clause-merges : goal.returns-clause-merges
returns-clause-merges t c =
    let o = c.args.order.now in
    let start = c.args.ops.now in
    let first = c.split_off.new.self.items in
    let second = c.in_ok-second.second.items in
    let all = c.args.relations.items in
    let n = c.len.result in
    let h = halves_of all first second n (c.len-half.result / 2)
    (let a = c.len.ensures in let b = c.args.relations.ok.0 in omega (arith, a, b))
    (let d = c.if-len-lt2.false in omega (arith, d)) (let a = c.len-half.ensures in let b = c.len.ensures in
    let e : c.len-half.result ≡ n = omega (arith, a, b) in ap (λ (k : ℕ). k / 2) e) c.in_ok-second.ensures.items
    c.in_ok-second.ensures.tail in
    let known : All (IsRelation o start) (first ++ second) = subst (λ (rs : List Relation). All (IsRelation o start) rs) (sym h.whole) c.requires in
    let one = front_holds (IsRelation o start) first second known in
    let two = behind_holds (IsRelation o start) first second known in
    let mid = c.merge.new.ops in
    let one_mid = relations_kept o start mid first c.in_ok-left.ensures.kept one in
    let two_mid = relations_kept o start mid second c.in_ok-left.ensures.kept two in
    let old = c.merge-2.new.ops in
    let left = c.in_ok-left.left.items in
    let right = c.in_ok-right.right.items in
    let l = c.in_ok-left.ensures in
    let r = c.in_ok-right.ensures in
    let two_old = relations_kept o mid old second r.kept two_mid in
    let new = c.combine.new.ops in
    let bound = c.args.bound in
    ok_by c.combine.result _ _ c.combine.ensures.combined (λ results both.
    subst (λ (rs : List Relation). Merges o bound start rs new results.items) h.whole
    (merges_combined o bound start results.items r.reduced c.combine.ensures.reduced c.combine.ensures.kept
    (merges_kept o bound start first mid old left l.reduced r.reduced r.kept l.merges)
    (merges_since o bound start mid second old right l.kept two r.merges) both))

pub returns-clause-halved : goal.returns-clause-halved
returns-clause-halved t c =
    let o = c.args.order.now in
    let start = c.args.ops.now in
    let first = c.split_off.new.self.items in
    let second = c.in_ok-second.second.items in
    let all = c.args.relations.items in
    let n = c.len.result in
    let h = halves_of all first second n (c.len-half.result / 2)
    (let a = c.len.ensures in let b = c.args.relations.ok.0 in omega (arith, a, b))
    (let d = c.if-len-lt2.false in omega (arith, d)) (let a = c.len-half.ensures in let b = c.len.ensures in
    let e : c.len-half.result ≡ n = omega (arith, a, b) in ap (λ (k : ℕ). k / 2) e) c.in_ok-second.ensures.items
    c.in_ok-second.ensures.tail in
    let known : All (IsRelation o start) (first ++ second) = subst (λ (rs : List Relation). All (IsRelation o start) rs) (sym h.whole) c.requires in
    let one = front_holds (IsRelation o start) first second known in
    let two = behind_holds (IsRelation o start) first second known in
    let mid = c.merge.new.ops in
    let one_mid = relations_kept o start mid first c.in_ok-left.ensures.kept one in
    let two_mid = relations_kept o start mid second c.in_ok-left.ensures.kept two in
    let old = c.merge-2.new.ops in
    let left = c.in_ok-left.left.items in
    let right = c.in_ok-right.right.items in
    let l = c.in_ok-left.ensures in
    let r = c.in_ok-right.ensures in
    let two_old = relations_kept o mid old second r.kept two_mid in
    let new = c.combine.new.ops in
    let bound = c.args.bound in
    ok_by c.combine.result _ _ c.combine.ensures.combined (λ results both.
    subst (λ (rs : List Relation). IsHalved o bound new rs results.items) h.whole
    (halved_combined o bound old new r.reduced c.combine.ensures.reduced c.combine.ensures.kept first second left right results.items h.are
    (relations_kept o mid old first r.kept one_mid) two_old (halved_kept o bound mid old l.reduced r.reduced r.kept first left one_mid l.halved) r.halved both))
