use Rattle.std.proofs.Common.{◌≤◌, refl}
use Rattle.std.proofs.lemmas.List.Elements.{recursion_from_All}
use Rattle.space_api.proofs.Trading.{valid_clash}
use Rattle.prefix_tree.specs.declared.entry.Entry.{Entry}
use Rattle.loopless.specs.Children.{IsEntry}
use Rattle.loopless.specs.Front.{waiting, IsLooplessFirst}
use Rattle.prefix_tree.proofs.Entries.{first_is}
use Rattle.loopless.proofs.Walking.{past_turn, out_turn, cheap}
use Rattle.loopless.proofs.walk.take_turn.Goals as goal

pub returns-then-is_past-clause-ok : goal.returns-then-is_past-clause-ok
returns-then-is_past-clause-ok g c =
    let v = g.S.Space.view c.args.space.now in
    let f = c.args.front.now in
    let e = c.in-Some.entry in
    let least = recursion_from_All (λ (k : Entry). e.bound.0 ≤ k.bound.0) (waiting f) c.in-Some.ensures.least in
    (past_turn v.system c.args.most f e (c.is_past.ensures.0 c.if-is_past.true) c.requires.ready.each least, refl)

pub returns-then-is_out-clause-ok : goal.returns-then-is_out-clause-ok
returns-then-is_out-clause-ok g c =
    let v = g.S.Space.view c.args.space.now in
    let f = c.args.front.now in
    let e = c.in-Some.entry in
    let first : IsLooplessFirst f e = record { some = c.in-Some.ensures.some; at = c.in-Some.ensures.at } in
    let least = recursion_from_All (λ (k : Entry). e.bound.0 ≤ k.bound.0) (waiting f) c.in-Some.ensures.least in
    let out = c.is_out.ensures.0 c.if-is_out.true in
    (out_turn v c.args.backward.now f c.args.most e out c.requires.ready c.requires.right first least, refl)

pub returns-in-None-2-clause-ok : goal.returns-in-None-2-clause-ok
returns-in-None-2-clause-ok g c =
    let goes = rw c.in-None-2.is at c.in_ok-act-in-Some.ensures.ok in
    goes c.args.most c.requires.right

pub returns-in-Some-2-clause-ok : goal.returns-in-Some-2-clause-ok
returns-in-Some-2-clause-ok g c =
    let v = g.S.Space.view c.args.space.now in
    let f = c.args.front.now in
    let e = c.in-Some.entry in
    let least = recursion_from_All (λ (k : Entry). e.bound.0 ≤ k.bound.0) (waiting f) c.in-Some.ensures.least in
    let gives = rw c.in-Some-2.is at c.in_ok-act-in-Some.ensures.ok in
    let entry = first_is (IsEntry v.system f.tree.items) (waiting f) e c.in-Some.ensures.some c.in-Some.ensures.at c.requires.ready.each in
    let fits = cheap c.args.most e (λ h. valid_clash (c.is_past.ensures.1 h) c.if-is_past.false)
    (λ h. valid_clash (c.is_out.ensures.1 h) c.if-is_out.false) gives.0 entry.least in
    gives.1 c.args.most c.requires.right least fits
