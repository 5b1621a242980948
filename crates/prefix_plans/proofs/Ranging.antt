-- Where each plan that is left is too dear.
use Rattle.std.proofs.Common.{◌≡◌, ℕ, ◌<◌, ◌^◌, Bool, true, false, List, [], ◌∷◌, ◌++◌, inl, Option, None, Result, Ok, Err, refl, sym, subst, arith}
use Rattle.std.specs.List.{AllByRecursion}
use Rattle.std.specs.List.Sorted.{IsPermutation}
use Rattle.symk_task.specs.declared.parts.Mode.TheVariants.{TopK}
use Rattle.task_system.specs.System.{State, System}
use Rattle.lazy_plans.specs.Law.{Turned, MayStop, NoneLeft}
use Rattle.lazy_plans.specs.declared.stop.Stop.{Stop}
use Rattle.lazy_plans.specs.declared.stop.Stop.TheVariants.{CostRange}
use Rattle.lazy_plans.proofs.Given.{turned_from, stays_trans}
use Rattle.lazy_plans.specs.Queue.{Right, Pending, Replaced}
use Rattle.lazy_plans.proofs.Traces.{leads_on}
use Rattle.lazy_plans.proofs.Turns as turns
use Rattle.prefix_tree.specs.Tree.{IsTree, path_at}
use Rattle.prefix_tree.specs.Entries.{prefixes}
use Rattle.prefix_tree.specs.declared.tree.Node.{Node}
use Rattle.prefix_tree.specs.declared.entry.Entry.{Entry}
use Rattle.prefix_plans.specs.Leading.{IsDear, IsHopelessEntry, DropsHopeless, TellsGoingOn}
use Rattle.prefix_plans.proofs.Dearest.{bounds_dear}
use Rattle.prefix_plans.proofs.Permuting.{permuted_prefixes, replaced_same, replaced_front}
use Rattle.prefix_plans.proofs.Dropping.{drops_each, drops_on}
use Rattle.prefix_plans.specs.Standing.{KeepsPending}

pub keeps_all : (y : System) (most : Option ℕ) (ps : List (List ℕ)) → Right y TopK most ps → KeepsPending y most ps ps
keeps_all y most ps right = record { right = right; stays = λ q. ((λ h. h), (λ h. h)) }

-- entries from which no plan goes on were left out
module _ (y : System) (ss : List State) (nodes : List Node) (z : IsTree y TopK ss nodes) (most : Option ℕ) (old new : List Entry)
    (right : Right y TopK most (prefixes nodes old)) (d : DropsHopeless y nodes old new) where
  abbrev Keeps : List Entry → Type 0
  Keeps es = KeepsPending y most (prefixes nodes old) (prefixes nodes es)

  keeps_moved : (es same : List Entry) → IsPermutation es same → Keeps es → Keeps same
  keeps_moved es same perm k =
      let back : Replaced (prefixes nodes es) ([] ∷ []) [] (prefixes nodes same) =
      replaced_same (prefixes nodes es) (prefixes nodes same) [] (permuted_prefixes nodes es same perm) in
      record {
        right = turns.back_right y TopK [] (prefixes nodes es) (prefixes nodes same) back most k.right;
        stays = stays_trans (Pending y TopK (prefixes nodes old)) (Pending y TopK (prefixes nodes es)) (Pending y TopK (prefixes nodes same))
            k.stays (turns.back_stays y TopK [] (prefixes nodes es) (prefixes nodes same) back);
      }

  keeps_gone : (e : Entry) (rest : List Entry) → IsHopelessEntry y nodes e → Keeps (e ∷ rest) → Keeps rest
  keeps_gone e rest h k =
      let p = path_at nodes e.node in
      let good = (z.each e.node h.inside).good in
      let taken = replaced_front p (prefixes nodes rest) in
      record {
        right = turns.lost_right y TopK most p (p ∷ prefixes nodes rest) k.right (inl refl) good h.lost (prefixes nodes rest) taken;
        stays = stays_trans (Pending y TopK (prefixes nodes old)) (Pending y TopK (p ∷ prefixes nodes rest)) (Pending y TopK (prefixes nodes rest)) k.stays
            (turns.lost_stays y TopK most p (p ∷ prefixes nodes rest) k.right (inl refl) good h.lost (prefixes nodes rest) taken);
      }

  pub drops_keeps : Keeps new
  drops_keeps = drops_on Keeps keeps_moved keeps_gone d (keeps_all y most (prefixes nodes old) right)

  back : (r : Result (Option (List ℕ)) Stop) → Turned y TopK most (Pending y TopK (prefixes nodes new)) (Pending y TopK (prefixes nodes new)) r
      → Turned y TopK most (Pending y TopK (prefixes nodes old)) (Pending y TopK (prefixes nodes new)) r
  back r h = turned_from y TopK most (Pending y TopK (prefixes nodes old)) (Pending y TopK (prefixes nodes new))
      (Pending y TopK (prefixes nodes new)) r drops_keeps.stays h

  -- what is told of them is told of what pends
  module _ (b : Bool) (told : TellsGoingOn y nodes new b) where
    pub ends_so : b ≡ false → Keeps new × NoneLeft y most (Pending y TopK (prefixes nodes old))
    ends_so off =
        let none : new ≡ [] = subst (TellsGoingOn y nodes new) off told in
        let empty : NoneLeft y most (Pending y TopK (prefixes nodes new)) =
        subst (λ (es : List Entry). NoneLeft y most (Pending y TopK (prefixes nodes es))) (sym none) (turns.empty y TopK most) in
        (drops_keeps, (back (Ok None) (empty, λ q. ((λ h. h), (λ h. h)))).0)

    pub stops_so : b ≡ true → most ≡ None → AllByRecursion (IsDear y nodes) old
        → Keeps new × MayStop y most (Pending y TopK (prefixes nodes old)) CostRange
    stops_so on none dear =
        let h = subst (TellsGoingOn y nodes new) on told in
        let g = h.2 in
        let lead = leads_on y h.0 g.2.0 g.0 g.2.1 g.1 g.2.2 g.2.3 in
        let stops : MayStop y most (Pending y TopK (prefixes nodes new)) CostRange =
        subst (λ (o : Option ℕ). MayStop y o (Pending y TopK (prefixes nodes new)) CostRange) (sym none)
        (turns.out_of_range y TopK most h.0 (prefixes nodes new) drops_keeps.right h.1 (2 ^ 64)
        (bounds_dear y nodes new (drops_each (IsDear y nodes) d dear)) (omega arith) (h.0 ++ g.2.0) lead.0 lead.1) in
        (drops_keeps, (back (Err CostRange) (stops, λ q. ((λ k. k), (λ k. k)))).0)
