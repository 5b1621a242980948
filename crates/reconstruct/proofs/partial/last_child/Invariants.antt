use Rattle.std.proofs.Common.{◌≡◌, ◌≤◌, take, length}
use Rattle.space_api.specs.Frames.{Stays}
use Rattle.reconstruct.specs.Parts.{children_left}
use Rattle.reconstruct.proofs.partial.last_child.Given as goal

abbrev pub invariant-operators : goal.invariant-operators
invariant-operators g l =
    let u = g.S.Space.view l.fn.space in
    let e = l.partial.prefix in
    record {
      stays : Stays u (g.S.Space.view l.space);
      part : take (length l.left) l.partial.left.items ≡ l.left;
      few : length l.left ≤ length l.partial.left.items;
      same : children_left u l.front e l.partial.left.items ≡ children_left u l.front e l.left;
    }

abbrev pub decreases-operators : goal.decreases-operators
decreases-operators g l = length l.left
