-- Which of two entries is handed out later.
use Rattle.std.specs.Prelude.{◌≡◌, ◌<◌, ◌≤◌, ◌⊎◌}
use Rattle.std.specs.Ordering.{nat_cmp, bool_cmp, ordering_then}
use Rattle.std.specs.declared.cmp.Ordering.{Ordering}
use Rattle.prefix_tree.specs.declared.entry.Entry.{Entry}

-- the greater is the one of the lesser bound, then of the greater cost, then in the earlier ring; what follows makes the order total
abbrev pub queue_order : Entry → Entry → Ordering
queue_order x y = ordering_then (nat_cmp y.bound.0 x.bound.0)
    (ordering_then (nat_cmp x.cost y.cost) (ordering_then (nat_cmp y.ring.0 x.ring.0)
    (ordering_then (nat_cmp x.node y.node) (ordering_then (bool_cmp x.settled y.settled)
    (bool_cmp x.at_goal y.at_goal)))))

-- x is handed out no later than y
abbrev pub IsNoLater : Entry → Entry → Type 0
IsNoLater x y = (x.bound.0 < y.bound.0) ⊎ ((x.bound.0 ≡ y.bound.0) × ((y.cost < x.cost) ⊎ ((y.cost ≡ x.cost) × (x.ring.0 ≤ y.ring.0))))
