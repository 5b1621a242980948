use Rattle.std.proofs.Common.{◌≡◌, ◌++◌, ◌+◌, ◌<◌, ℕ, List, length, get_or, sym, ◌∙◌, ap, subst, arith}
use Rattle.std.proofs.lemmas.List.{with_items_is}
use Rattle.bdd_table.specs.Collected.{IsMoved}
use Rattle.trans_merge.specs.Roots.{roots_of}
use Rattle.diagram_tests.proofs.operators.collect.Goals as goal

pub returns : goal.returns
returns c =
    let old = c.args.ops.now in
    let new = c.collect.new.self in
    let roots = roots_of c.args.relations.now in
    let places = c.collect.new.roots in
    let first : c.deref_mut.result.now ≡ roots = c.deref_mut.ensures.value ∙ c.in_ok-push_roots.ensures.pushed ∙ ap (λ (xs : List ℕ). xs ++ roots) c.new-roots.ensures.items in
    let count = c.push_roots.new.roots.ok.0 in
    let as_long : length places ≡ length c.push_roots.new.roots.items = c.collect.auto.roots ∙ ap (λ (xs : List ℕ). length xs) c.deref_mut.ensures.value in
    let last : c.deref.result.now ≡ places = c.deref.ensures.value ∙ with_items_is c.push_roots.new.roots places (omega (arith, as_long, count)) in
    let moved = subst (λ (xs : List ℕ). (i : ℕ) → i < length xs → IsMoved old new (get_or xs i 0) (get_or places i 0)) first c.in_ok-collect.ensures.moved in
    c.take_roots.ensures.moved c.args.task.now c.args.order.now old new c.requires (λ i lt.
    subst (λ (x : ℕ). IsMoved old new (get_or roots i 0) x) (ap (λ (xs : List ℕ). get_or xs i 0) (sym last) ∙ ap (λ (k : ℕ). get_or c.deref.result.now k 0) (let e : i ≡ 0 + i = omega arith in e)) (moved i lt))
