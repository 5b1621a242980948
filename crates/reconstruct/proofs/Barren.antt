-- Where an operator doesn't lead on there is no child.
use Rattle.std.proofs.Common.{◌≡◌, ℕ, ◌-◌, ◌<◌, ◌≤◌, inl, inr, Bool, true, false, ◌&&◌, leb, [], ◌∷◌, ◌++◌, Option, Some, None, refl, sym, ◌∙◌, ap}
use Rattle.task_system.specs.System.{State, RunsInSystem}
use Rattle.space_api.specs.View.{View, Has}
use Rattle.cost_layers.specs.Layers.{union_at}
use Rattle.cost_layers.specs.declared.layers.Layers.{Layers}
use Rattle.plan_cuts.specs.Counts.{one_if, at_some, begins}
use Rattle.plan_cuts.specs.Entries.{into, onto}
use Rattle.plan_cuts.specs.Growing.{NoChild}
use Rattle.plan_cuts.proofs.EntryCutting.{falsum}
use Rattle.plan_cuts.proofs.Paths.{both, either, le_of, led, reach_run}
use Rattle.plan_cuts.proofs.Adding.{hits_none}
use Rattle.reconstruct.specs.Entries.{entry_cost, as_plain_entry, EntryOk, in_some, member_in, Ready}
use Rattle.reconstruct.specs.Ways.{JoinsEntry, side_for}
use Rattle.reconstruct.specs.declared.entries.Prefix.{Prefix}
use Rattle.reconstruct.specs.declared.entries.Entry.{Entry}
use Rattle.reconstruct.specs.declared.entries.Entry.TheVariants.{Before, After, Partial}

pub in_layer : {Set : Type 0} (v : View Set) (o : Option Set) (s : State) → in_some v o s ≡ true → (a : Set) × (o ≡ Some a) × Has v a s
in_layer v None s h = absurd (falsum h)
in_layer v (Some a) s h = (a, refl, h)

-- no operator leads on: of whatever layer the cost has
abbrev pub LeadsNowhere : {Set : Type 0} → View Set → Layers Set → Layers Set → Entry Set → ℕ → Type 0
LeadsNowhere {Set} v front back e op = (a : Set) (s t : State) → v.system.cost op ≤ entry_cost e
    → union_at (side_for front back e) (entry_cost e - v.system.cost op) ≡ Some a → ¬ JoinsEntry v e op a s t

module _ {Set : Type 0} (v : View Set) (front back : Layers Set) (op : ℕ) (number : op < v.system.operators) where
  pub off_by : (e : Prefix Set) → LeadsNowhere v front back (Before e) op
      → (s : State) → into v.system (member_in v front) (v.has e.set) e.cost op s ≡ false
  off_by e none s =
      let y = v.system in
      elim (either (into y (member_in v front) (v.has e.set) e.cost op s)) [
        | inl h ↦ absurd (
            let p = both (leb (y.cost op) e.cost) (member_in v front (e.cost - y.cost op) s && at_some (y.step op s) (v.has e.set)) h in
            let q = both (member_in v front (e.cost - y.cost op) s) (at_some (y.step op s) (v.has e.set)) p.1 in
            let l = in_layer v (union_at front (e.cost - y.cost op)) s q.0 in
            let t = led y op s (v.has e.set) (y.step op s) number refl q.1 in
            none l.0 s t.0 (le_of _ _ p.0) l.1 (t.2, l.2, t.1))
        | inr h ↦ h
      ]

  before_none : (e : Prefix Set) → LeadsNowhere v front back (Before e) op
      → NoChild v.system (member_in v front) (member_in v back) (as_plain_entry v (Before e)) op
  before_none e none =
      let y = v.system in
      let off = off_by e none in (
        (λ p. hits_none y (into y (member_in v front) (v.has e.set) e.cost op) (e.cost - y.cost op)
            (begins y (op ∷ e.operators.items) e.after) 0 y.initial p off),
        (λ x. falsum (sym (off x.1) ∙ x.2)),
      )

  pub no_child : (f b listed : ℕ) (e : Entry Set) → EntryOk v e → Ready v.system v front back f b listed (as_plain_entry v e)
      → LeadsNowhere v front back e op → NoChild v.system (member_in v front) (member_in v back) (as_plain_entry v e) op
  no_child f b listed (Before e) ok ready none = before_none e none
  no_child f b listed (Partial e) ok ready none = before_none e.prefix none
  no_child f b listed (After e) ok ready none =
      let y = v.system in
      let at = e.state in
      let run : RunsInSystem y y.initial e.operators.items at = ok in
      let off : onto y (member_in v back) e.cost e.operators.items op ≡ false = elim (either (onto y (member_in v back) e.cost e.operators.items op)) [
        | inl h ↦ absurd (
            let p = both _ _ h in
            let h2 : at_some (y.step op at) (member_in v back (e.cost - y.cost op)) ≡ true = rw (reach_run y y.initial e.operators.items at run) at p.1 in
            let t = led y op at (member_in v back (e.cost - y.cost op)) (y.step op at) number refl h2 in
            let l = in_layer v (union_at back (e.cost - y.cost op)) t.0 t.1 in
            none l.0 at t.0 (le_of _ _ p.0) l.1 (t.2, refl, l.2))
        | inr h ↦ h
      ] in
      ((λ p. ap (λ (z : Bool). one_if (z && begins y (e.operators.items ++ op ∷ []) (e.cost - y.cost op) p)) off), (λ x. falsum (sym off ∙ x.2)))
