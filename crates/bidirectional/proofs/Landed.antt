-- The states into which operators cross: those of one cost, and what the loop over the costs keeps.
use Rattle.std.proofs.Common.{◌≡◌, ℕ, ◌+◌, ◌<◌, ◌≤◌, ◌⊎◌, ◌↔◌, inl, inr, Some, length, slice_index, refl, sym, subst, arith}
use Rattle.task_system.specs.System.{State, System}
use Rattle.space_api.specs.View.{View, Valid, Has}
use Rattle.space_api.specs.Frames.{Kept, Gives}
use Rattle.space_api.specs.Owned.{Trades}
use Rattle.space_api.specs.Costs.{costs_of}
use Rattle.space_api.proofs.CostList.{are_costs}
use Rattle.space_api.proofs.Trading.{trades_trans, trades_gives, gives_made, kept_made}
use Rattle.run_graph.specs.Graph.{seen_from}
use Rattle.run_graph.specs.declared.Side.TheVariants.{Ahead}
use Rattle.run_graph.specs.Layering.{At}
use Rattle.cost_layers.specs.Layers.{Stands, rings_at, union_at}
use Rattle.cost_layers.proofs.Holding.{layer_at}
use Rattle.cost_layers.specs.Arcs.{AlongIn}
use Rattle.cost_layers.specs.Gathered.{Joins}
use Rattle.bidirectional.specs.Crossing.{AreHeld}
use Rattle.bidirectional.specs.declared.crossing.Meeting.{Meeting}
use Rattle.bidirectional.specs.Cutting.{CutsBy, Lands, LandsBy}
use Rattle.bidirectional.proofs.Carrying.{cuts_as, agree_kept, carries_on, carries_back, set_kept}

-- from the one layer that the sum allows
module _ {Set : Type 0} {v w : View Set} {m : Meeting Set} {landed r : Set} (to : Set) (cost z c : ℕ) (held : AreHeld v m) where
  pub lands_layer : (x : ℕ) (whole : Set) → (x + c + z ≡ cost) × (m.b ≤ z + c) → union_at m.front.now x ≡ Some whole
      → Joins v w landed (AlongIn (seen_from Ahead v.system) v c whole to) r
      → Joins v w landed (LandsBy v.system (Stands v m.front.now) (Has v to) cost m.b z c) r
  lands_layer x whole sums is j =
      let l = layer_at v (rings_at m.front.now x) (union_at m.front.now x) whole is (held.front.each x) in
      record {
        trades = j.trades;
        means = λ s. (
          (λ h. elim ((j.means s).0 h) [
            | inl a ↦ inl a
            | inr a ↦
                let o = a.0 in
                inr (
                  o.0,
                  o.1,
                  record {
                    x = x;
                    sum = omega (arith, sums.0, o.1);
                    first = omega (arith, sums.1, o.1);
                    meets = record { from = o.2.0; to = s; member = (l.parts o.2.0).0 o.2.1; leads = o.2.2; inside = (refl, a.1) };
                  },
                )
          ]),
          (λ h. elim h [
            | inl a ↦ (j.means s).1 (inl a)
            | inr a ↦
                let n = a.2.meets in
                let e : a.2.x ≡ x = omega (arith, a.2.sum, a.1, sums.0) in
                let member = subst (λ (d : ℕ). (i : ℕ) × Stands v m.front.now d i n.from) e n.member in
                (j.means s).1 (inr (
                  (a.0, a.1, (n.from, (l.parts n.from).1 member, subst (λ (t : State). (seen_from Ahead v.system).arc a.0 n.from t) n.inside.0 n.leads)),
                  subst (Has v to) n.inside.0 n.inside.1,
                ))
          ]),
        );
      }

pub lands_nowhere : (y : System) (front : At) (P : State → Type 0) (cost b z c : ℕ) → ((x : ℕ) → x + c + z ≡ cost → b ≤ z + c → ⊥) → (s : State)
    → ¬ LandsBy y front P cost b z c s
lands_nowhere y front P cost b z c none s h = none h.2.x (omega (arith, h.2.sum, h.1)) (omega (arith, h.2.first, h.1))

-- where sets are kept
pub lands_kept : {Set : Type 0} {v u : View Set} {m : Meeting Set} {cost b z w : ℕ} (to : Set) → AreHeld v m → Kept v u → Valid v to → (t : State)
    → LandsBy u.system (Stands u m.front.now) (Has u to) cost b z w t ↔ LandsBy v.system (Stands v m.front.now) (Has v to) cost b z w t
lands_kept {Set} {v} {u} {m} {cost} {b} {z} {w} to held k ok t =
    let same : (s : State) → ((s ≡ t) × Has v to s) ↔ ((s ≡ t) × Has u to s) =
    λ s. ((λ h. (h.0, (set_kept to k ok s).0 h.1)), (λ h. (h.0, (set_kept to k ok s).1 h.1))) in
    let e = agree_kept held k same in (
      (λ h. (h.0, subst (λ (y : System). y.cost h.0 ≡ w) k.system h.1, cuts_as e.back h.2)),
      (λ h. (h.0, subst (λ (y : System). y.cost h.0 ≡ w) (sym k.system) h.1, cuts_as e.there h.2)),
    )

-- by operators of the first n costs
abbrev pub LandsFirst : System → At → (State → Type 0) → ℕ → ℕ → ℕ → ℕ → State → Type 0
LandsFirst y front P cost b z n t = (k : ℕ) × (k < n) × LandsBy y front P cost b z (slice_index (costs_of y) k) t

split : (k n : ℕ) → k < n + 1 → (k < n) ⊎ (k ≡ n)
split k n h = grind arith

module _ (y : System) (front : At) (P : State → Type 0) (cost b z : ℕ) (t : State) where
  lands_more : (n : ℕ) → LandsFirst y front P cost b z (n + 1) t
      ↔ (LandsFirst y front P cost b z n t ⊎ LandsBy y front P cost b z (slice_index (costs_of y) n) t)
  lands_more n = (
    (λ h. elim (split h.0 n h.1) [
      | inl a ↦ inl (h.0, a, h.2)
      | inr e ↦ inr
          (subst (λ (k : ℕ). LandsBy y front P cost b z (slice_index (costs_of y) k) t) e h.2)
    ]),
    (λ h. elim h [ inl a ↦ (a.0, omega (arith, a.1), a.2) | inr a ↦ (n, omega arith, a) ]),
  )

  lands_all : (n : ℕ) → n ≡ length (costs_of y) → LandsFirst y front P cost b z n t ↔ Lands y front P cost b z t
  lands_all n e = (
    (λ h. (h.2.0, h.2.2)),
    (λ h.
        let i = (are_costs y).all h.0 h.1.meets.leads.number in
        (i.0, omega (arith, i.1, e), (h.0, sym i.2, h.1))),
  )

-- what the loop over the costs keeps: the set alone was made, by the costs so far
pub record Landing {Set : Type 0} (v u : View Set) (m : Meeting Set) (to : Set) (cost z n : ℕ) (landed : Set) : Type 0 where
  pub made : Trades v u (λ a. ⊥) (λ a. a ≡ landed)
  pub means : (s : State) → Has u landed s ↔ LandsFirst v.system (Stands v m.front.now) (Has v to) cost m.b z n s

pub landing_start : {Set : Type 0} {v u : View Set} (m : Meeting Set) (to landed : Set) (cost z : ℕ) → Kept v u → Gives v u (λ s. ⊥) landed
    → Landing v u m to cost z 0 landed
landing_start m to landed cost z k g = record {
  made = trades_gives landed k g;
  means = λ s. ((λ h. absurd ((g.means s).0 h)), (λ h. absurd (omega (arith, h.1))));
}

module _ {Set : Type 0} {v u : View Set} {m : Meeting Set} {to landed : Set} {cost z n : ℕ} (g : Landing v u m to cost z n landed) where
  pub landing_step : {w : View Set} {r : Set} (c : ℕ) → AreHeld v m → Valid v to → c ≡ slice_index (costs_of u.system) n
      → Joins u w landed (LandsBy u.system (Stands u m.front.now) (Has u to) cost m.b z c) r → Landing v w m to cost z (n + 1) r
  landing_step c held ok e j =
      let k : Kept v u = kept_made g.made in
      let f : c ≡ slice_index (costs_of v.system) n = subst (λ (y : System). c ≡ slice_index (costs_of y) n) k.system e in
      record {
        made = trades_trans g.made j.trades;
        means = λ s.
            let more = lands_more v.system (Stands v m.front.now) (Has v to) cost m.b z s n in
            let one = subst (λ (d : ℕ). LandsBy u.system (Stands u m.front.now) (Has u to) cost m.b z c s
            ↔ LandsBy v.system (Stands v m.front.now) (Has v to) cost m.b z d s) f
            (lands_kept to held k ok s) in (
              (λ h. elim ((j.means s).0 h) [ inl a ↦ more.1 (inl ((g.means s).0 a)) | inr a ↦ more.1 (inr (one.0 a)) ]),
              (λ h. elim (more.0 h) [ inl a ↦ (j.means s).1 (inl ((g.means s).1 a)) | inr a ↦ (j.means s).1 (inr (one.1 a)) ]),
            );
      }

  pub landing_end : n ≡ length (costs_of v.system) → Gives v u (Lands v.system (Stands v m.front.now) (Has v to) cost m.b z) landed
  landing_end e = gives_made g.made (λ s.
      let all = lands_all v.system (Stands v m.front.now) (Has v to) cost m.b z s n e in
      ((λ h. all.0 ((g.means s).0 h)), (λ h. (g.means s).1 (all.1 h))))

-- the same operators cross into the states into which some operator does
pub landed_cuts : {Set : Type 0} {v u : View Set} {m : Meeting Set} {cost b z : ℕ} (to landed : Set) → AreHeld v m → Kept v u
    → ((s : State) → Has u landed s ↔ Lands v.system (Stands v m.front.now) (Has v to) cost b z s) → (op : ℕ)
    → CutsBy u.system (Stands u m.front.now) (Has u landed) cost b z op ↔ CutsBy v.system (Stands v m.front.now) (Has v to) cost b z op
landed_cuts {Set} {v} to landed held k means op = (
  cuts_as (carries_back held k (λ s h. (let m = ((means s).0 h).1.meets in subst (Has v to) m.inside.0 m.inside.1))),
  (λ c.
      let m = c.meets in
      cuts_as (carries_on held k (λ s h. h)) (record {
        x = c.x;
        sum = c.sum;
        first = c.first;
        meets = record {
          from = m.from;
          to = m.to;
          member = m.member;
          leads = m.leads;
          inside = (means m.to).1 (
            op,
            record {
              x = c.x;
              sum = c.sum;
              first = c.first;
              meets =
                  record { from = m.from; to = m.to; member = m.member; leads = m.leads; inside = (refl, m.inside) };
            },
          );
        };
      })),
)
