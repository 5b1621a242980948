use Rattle.std.proofs.Common.{◌≡◌, ◌∙◌, ◌<◌, ◌||◌, ◌↔◌, ◌⊎◌, ℕ, List, Bool, ap, sym, subst, arith}
use Rattle.std.specs.List.{All}
use Rattle.bdd_table.specs.Diagram.{Bits, means}
use Rattle.transitions.specs.Relations.{Connects, IsStepSet}
use Rattle.trans_merge.specs.Widened.{united}
use Rattle.trans_merge.proofs.Among.{united_small}
use Rattle.trans_merge.proofs.Joined.{joined_steps, joined_connects, means_through, at_lists, united_at}
use Rattle.trans_merge.proofs.joining.join.Goals as goal

pub of-requires : goal.of-requires
of-requires c = subst (λ (xs : List ℕ). All (λ p. p < 2147483647) xs)
    (sym (united_at c.args.order.now c.args.a.now.touched.items c.args.b.now.touched.items c.deref-5.result.now
    c.deref-6.result.now c.in_ok-touched.touched.items c.deref-5.ensures.value c.deref-6.ensures.value
    c.in_ok-touched.ensures)) (united_small c.args.order.now c.args.a.now.touched.items c.args.b.now.touched.items
    c.blocks-2.ensures.layout)

pub returns-clause-joined : goal.returns-clause-joined
returns-clause-joined c =
    let o = c.args.order.now in
    let a = c.args.a.now in
    let b = c.args.b.now in
    let F = means c.args.ops.now a.root in
    let G = means c.args.ops.now b.root in
    let W = means c.widen.new.ops c.in_ok-wide.wide in
    let V = means c.widen-2.new.ops c.in_ok-other.other in
    let H = means c.disj.new.self c.in_ok-root.root in
    let wide = (λ (d : Bits). at_lists o a.touched.items b.touched.items c.deref.result.now c.deref-2.result.now (W d)
    (F d) d c.deref.ensures.value c.deref-2.ensures.value (c.in_ok-wide.ensures.meaning d)) in
    let other = (λ (d : Bits). means_through (V d) (means c.widen.new.ops b.root d) (G d)
    (c.in_ok-wide.ensures.kept.meaning b.root d c.requires.b.known)
    (at_lists o b.touched.items a.touched.items c.deref-3.result.now c.deref-4.result.now (V d)
    (means c.widen.new.ops b.root d) d c.deref-3.ensures.value c.deref-4.ensures.value
    (c.in_ok-other.ensures.meaning d))) in
    let is : (d : Bits) → H d ≡ (W d || V d) = (λ d. c.in_ok-root.ensures.meaning d ∙ ap (λ (t : Bool). t || V d)
    (c.in_ok-other.ensures.kept.meaning c.in_ok-wide.wide d c.in_ok-wide.ensures.known)) in
    let places = ap (λ (v : _). v.items) c.in_ok-of.ensures.touched
    ∙ united_at o a.touched.items b.touched.items c.deref-5.result.now c.deref-6.result.now
    c.in_ok-touched.touched.items c.deref-5.ensures.value c.deref-6.ensures.value c.in_ok-touched.ensures in
    let id = c.in_ok-of.ensures.root in
    let steps = joined_steps o c.blocks-2.ensures.layout a.touched.items b.touched.items F G W V H c.requires.a.steps c.requires.b.steps wide other is in
    let leads = joined_connects o c.blocks-2.ensures.layout a.touched.items b.touched.items F G W V H c.requires.a.steps c.requires.b.steps wide other is in
    record {
      relation = record {
        known = (let k = c.in_ok-root.ensures.known in omega (arith, k, id));
        ready = c.in_ok-of.ensures.ready;
        steps = subst (λ (xs : List ℕ). IsStepSet o xs (means c.disj.new.self c.in_ok-of.field-0.root)) (sym places)
            (subst (λ (x : ℕ). IsStepSet o (united o a.touched.items b.touched.items) (means c.disj.new.self x))
            (sym id) steps);
      };
      touched = places;
      leads = λ s t ss st. subst (λ (xs : List ℕ). Connects o xs (means c.disj.new.self c.in_ok-of.field-0.root) s t
          ↔ (Connects o a.touched.items F s t ⊎ Connects o b.touched.items G s t)) (sym places)
          (subst (λ (x : ℕ). Connects o (united o a.touched.items b.touched.items) (means c.disj.new.self x) s t
          ↔ (Connects o a.touched.items F s t ⊎ Connects o b.touched.items G s t)) (sym id) (leads s t));
    }
