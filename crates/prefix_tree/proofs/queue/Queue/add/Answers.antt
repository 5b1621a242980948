use Rattle.std.proofs.Common.{◌+◌, ◌≤◌, ◌++◌, arith}
use Rattle.std.specs.BinaryHeap.{heap_items, heap_len, heap_capacity}
use Rattle.std.proofs.lemmas.List.Sorted.{IsPermutation-append_right, IsPermutation-trans}
use Rattle.prefix_tree.proofs.Replacing.{on_ok}
use Rattle.prefix_tree.proofs.queue.Queue.add.Goals as goal

pub returns : goal.returns
returns c =
    let old = heap_items c.args.self.now.heap in
    let more = heap_items c.from-others.result in
    let room : heap_len c.args.self.now.heap + heap_len c.from-others.result ≤ heap_capacity c.args.self.now.heap = omega (arith, c.requires) in
    IsPermutation-trans (old ++ c.args.others.items) (old ++ more) (heap_items c.append.new.self)
    (IsPermutation-append_right old c.args.others.items more c.from-others.ensures.1)
    (on_ok c.append.result c.append.ensures.permutation (c.append.ensures.succeeds room))
