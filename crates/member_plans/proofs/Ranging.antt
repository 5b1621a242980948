-- Where each entry is too dear.
use Rattle.std.proofs.Common.{◌≡◌, ℕ, ◌≤◌, ◌^◌, Bool, true, false, List, [], ◌∷◌, ◌++◌, Option, None, sym, subst, arith}
use Rattle.std.specs.List.{AllByRecursion}
use Rattle.task_system.specs.System.{System, cost_in_system}
use Rattle.space_api.specs.Listing.{ListsReached}
use Rattle.lazy_plans.specs.Law.{MayStop, NoneLeft, top}
use Rattle.lazy_plans.specs.declared.stop.Stop.TheVariants.{CostRange}
use Rattle.lazy_plans.proofs.Traces.{leads_on}
use Rattle.prefix_tree.specs.Tree.{path_at}
use Rattle.prefix_tree.specs.Entries.{prefixes}
use Rattle.prefix_tree.specs.declared.tree.Node.{Node}
use Rattle.prefix_tree.specs.declared.entry.Entry.{Entry}
use Rattle.prefix_plans.specs.Leading.{IsDear, IsHopelessEntry, DropsHopeless, TellsGoingOn}
use Rattle.prefix_plans.proofs.Dearest.{bounds_dear}
use Rattle.prefix_plans.proofs.Permuting.{replaced_front}
use Rattle.prefix_plans.proofs.Dropping.{drops_each, drops_on}
use Rattle.member_laws.specs.Nodes.{CoversOpened, PendsNode}
use Rattle.member_laws.proofs.Covering as covering
use Rattle.member_laws.proofs.Pending as pending
use Rattle.member_plans.proofs.Beside.{permuted_covers}

-- entries from which no plan goes on were left out
module _ (y : System) (nodes : List Node) (opened : List (List ℕ)) (old new : List Entry) (d : DropsHopeless y nodes old new) where
  abbrev Covers : List Entry → Type 0
  Covers es = CoversOpened y opened (prefixes nodes es)

  covers_gone : (e : Entry) (rest : List Entry) → IsHopelessEntry y nodes e → Covers (e ∷ rest) → Covers rest
  covers_gone e rest h k =
      let p = path_at nodes e.node in
      covering.hopeless_goes y p opened (p ∷ prefixes nodes rest) (prefixes nodes rest) k h.lost (replaced_front p (prefixes nodes rest))

  pub drops_cover : Covers old → Covers new
  drops_cover = drops_on Covers (permuted_covers y nodes opened) covers_gone d

  -- what is told of them is told of what pends
  module _ (most : Option ℕ) (b : Bool) (told : TellsGoingOn y nodes new b) (lists : ListsReached y) (covers : Covers old) where
    pub ends_so : b ≡ false → NoneLeft y most (PendsNode y opened)
    ends_so off = pending.empty_leaves y most opened lists (subst Covers (subst (TellsGoingOn y nodes new) off told) (drops_cover covers))

    pub stops_so : b ≡ true → most ≡ None → AllByRecursion (IsDear y nodes) old
        → AllByRecursion (λ p. cost_in_system y p ≤ top None) opened → MayStop y most (PendsNode y opened) CostRange
    stops_so on none dear cheap =
        let h = subst (TellsGoingOn y nodes new) on told in
        let g = h.2 in
        let lead = leads_on y h.0 g.2.0 g.0 g.2.1 g.1 g.2.2 g.2.3 in
        subst (λ (o : Option ℕ). MayStop y o (PendsNode y opened) CostRange) (sym none)
        (pending.dear_out y opened (prefixes nodes new) lists (drops_cover covers) (2 ^ 64) h.0 (h.0 ++ g.2.0)
        (bounds_dear y nodes new (drops_each (IsDear y nodes) d dear)) (omega arith) cheap h.1 lead.0 lead.1)
