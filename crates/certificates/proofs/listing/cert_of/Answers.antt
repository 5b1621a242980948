use Rattle.std.proofs.Common.{◌≡◌, ◌∙◌, List, get_or, ap, sym, subst, arith}
use Rattle.certificates.specs.declared.node.CertNode.{CertNode}
use Rattle.certificates.specs.Meaning.{state_bits, holds}
use Rattle.certificates.specs.Texts.{state_width, IsInOrder}
use Rattle.certificates.specs.Tidy.{IsTidy}
use Rattle.bdd_table.specs.Diagram.{means}
use Rattle.certificates.specs.Listed.{listed}
use Rattle.certificates.proofs.Naming.{small, shown, made_in_order, made_tidy, made_names}
use Rattle.certificates.proofs.listing.cert_of.Goals as goal

pub rebuilt-requires-clause-small : goal.rebuilt-requires-clause-small
rebuilt-requires-clause-small c =
    let places = c.in_ok-places.ensures in
    let s = shown c.args.task.now c.args.order.now places.are places.count places.most
    c.deref.ensures.value c.deref-2.ensures.value c.bits.ensures.value c.in_ok-indexes.ensures in
    small c.in_ok-places.places.items c.deref-2.result.now _ s.are s.most

pub returns-clause-in_order : goal.returns-clause-in_order
returns-clause-in_order c =
    let places = c.in_ok-places.ensures in
    let s = shown c.args.task.now c.args.order.now places.are places.count places.most
    c.deref.ensures.value c.deref-2.ensures.value c.bits.ensures.value c.in_ok-indexes.ensures in
    subst (λ (xs : List CertNode). IsInOrder (state_width c.args.task.now)
    (record { nodes = xs; root = get_or c.collect.new.roots 0 0 }))
    (sym (c.in_ok-nodes.ensures.are ∙ ap listed c.table.ensures.same))
    (made_in_order c.args.task.now c.args.order.now c.requires.order c.in_ok-places.places.items s.same s.many
    c.deref-2.result.now s.are c.args.table.now c.rebuilt.new.ops c.collect.new.self c.args.set
    c.in_ok-rebuilt.field-0 c.collect.new.roots c.collect.auto.roots
    c.in_ok-rebuilt.ensures.meaning (c.in_ok-collect.ensures.moved 0 (omega arith)) c.in_ok-collect.ensures.reduced c.in_ok-collect.ensures.exact)

pub returns-clause-tidy : goal.returns-clause-tidy
returns-clause-tidy c =
    let places = c.in_ok-places.ensures in
    let s = shown c.args.task.now c.args.order.now places.are places.count places.most
    c.deref.ensures.value c.deref-2.ensures.value c.bits.ensures.value c.in_ok-indexes.ensures in
    subst (λ (xs : List CertNode). IsTidy (record { nodes = xs; root = get_or c.collect.new.roots 0 0 }))
    (sym (c.in_ok-nodes.ensures.are ∙ ap listed c.table.ensures.same))
    (made_tidy c.args.task.now c.args.order.now c.requires.order c.in_ok-places.places.items s.same s.many
    c.deref-2.result.now s.are c.args.table.now c.rebuilt.new.ops c.collect.new.self c.args.set
    c.in_ok-rebuilt.field-0 c.collect.new.roots c.collect.auto.roots
    c.in_ok-rebuilt.ensures.meaning (c.in_ok-collect.ensures.moved 0 (omega arith)) c.in_ok-collect.ensures.reduced c.in_ok-collect.ensures.exact)

pub returns-clause-names : goal.returns-clause-names
returns-clause-names c = λ s b state code.
    let places = c.in_ok-places.ensures in
    let k = shown c.args.task.now c.args.order.now places.are places.count places.most
    c.deref.ensures.value c.deref-2.ensures.value c.bits.ensures.value c.in_ok-indexes.ensures in
    subst (λ (xs : List CertNode). holds (record { nodes = xs; root = get_or c.collect.new.roots 0 0 })
    (state_bits c.args.task.now s) ≡ means c.args.table.now c.args.set b)
    (sym (c.in_ok-nodes.ensures.are ∙ ap listed c.table.ensures.same))
    (made_names c.args.task.now c.args.order.now c.requires.order c.in_ok-places.places.items k.same k.many
    c.deref-2.result.now k.are c.args.table.now c.rebuilt.new.ops c.collect.new.self c.args.set
    c.in_ok-rebuilt.field-0 c.collect.new.roots c.collect.auto.roots
    c.in_ok-rebuilt.ensures.meaning (c.in_ok-collect.ensures.moved 0 (omega arith)) c.in_ok-collect.ensures.reduced
    c.in_ok-collect.ensures.exact c.requires.states s b code)
