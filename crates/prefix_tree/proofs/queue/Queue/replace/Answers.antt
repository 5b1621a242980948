use Rattle.std.proofs.Common.{◌≡◌, ◌+◌, ◌≤◌, length, arith}
use Rattle.std.specs.BinaryHeap.{heap_items, heap_len, heap_capacity}
use Rattle.std.proofs.lemmas.List.Sorted.{length_permutation}
use Rattle.prefix_tree.proofs.Replacing.{replaced_first, replaced_alone, on_ok}
use Rattle.prefix_tree.proofs.queue.Queue.replace.Goals as goal

pub returns-in-None-clause-replaces : goal.returns-in-None-clause-replaces
returns-in-None-clause-replaces g c e first =
    let old = heap_items c.args.self.now.heap in
    let kids = c.args.others.items in
    let none : length c.args.others.items ≡ 0 = omega (
      arith,
      c.in-None.ensures.none,
      length_permutation kids
          (heap_items c.from-others.result) c.from-others.ensures.1,
    ) in
    let p = c.pop-in-None.ensures in
    replaced_alone old kids (heap_items c.pop-in-None.new.self) c.pop-in-None.result e c.requires.some none first
    (p.variant.1 (omega (arith, c.requires.some))) p.top p.permutation

pub returns-clause-replaces : goal.returns-clause-replaces
returns-clause-replaces g c e first =
    let room : heap_len c.put_first.new.heap + heap_len c.pop.new.self ≤ heap_capacity c.put_first.new.heap =
    omega (
      arith,
      c.requires.room,
      c.in-Some.ensures.len,
      c.put_first.ensures.len,
      c.put_first.ensures.capacity,
    ) in
    replaced_first (heap_items c.args.self.now.heap) c.requires.some first c.from-others.ensures.1
    c.in-Some.ensures.permutation c.put_first.ensures.items
    (on_ok c.append.result c.append.ensures.permutation (c.append.ensures.succeeds room))
