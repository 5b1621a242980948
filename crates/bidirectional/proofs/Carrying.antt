-- Where operators cross in one view, or into one set, they do in another.
use Rattle.std.proofs.Common.{◌≡◌, ℕ, ◌↔◌, Some, refl, sym, ◌∙◌, subst}
use Rattle.task_system.specs.System.{State, System, Leads}
use Rattle.space_api.specs.View.{View, Valid, Has}
use Rattle.space_api.specs.Frames.{Kept}
use Rattle.run_graph.specs.Layering.{At, InLayer}
use Rattle.cost_layers.specs.Layers.{rings_at, union_at, Stands, Held}
use Rattle.cost_layers.specs.declared.layers.Layers.{Layers}
use Rattle.cost_layers.proofs.Holding.{layer_at, holds_kept}
use Rattle.cost_search.proofs.Meeting.{stands_kept}
use Rattle.bidirectional.specs.Crossing.{AreHeld, LeadsOnlyFrom, MeetsBy, CrossAt}
use Rattle.bidirectional.specs.Cutting.{CutsBy}
use Rattle.bidirectional.specs.declared.crossing.Meeting.{Meeting}

-- the second system is the first; each state of the first layers is in the second ones, and each of P is one of Q
pub record Carries (y z : System) (A B : At) (P Q : State → Type 0) : Type 0 where
  pub system : z ≡ y
  pub layers : (c i : ℕ) (s : State) → A c i s → B c i s
  pub into : (s : State) → P s → Q s

module _ {y z : System} {A B : At} {P Q : State → Type 0} (e : Carries y z A B P Q) where
  pub meets_as : {x w : ℕ} → MeetsBy y A P x w → MeetsBy z B Q x w
  meets_as {x} {w} m = subst (λ (k : System). MeetsBy k B Q x w) (sym e.system) (record {
    op = m.op;
    from = m.from;
    to = m.to;
    cost = m.cost;
    member = (m.member.0, e.layers x m.member.0 m.from m.member.1);
    leads = m.leads;
    inside = e.into m.to m.inside;
  })

  pub cross_as : {b n w d : ℕ} → CrossAt y A P b n w d → CrossAt z B Q b n w d
  cross_as c = record { x = c.x; sum = c.sum; first = c.first; meets = meets_as c.meets }

  pub cuts_as : {cost b n op : ℕ} → CutsBy y A P cost b n op → CutsBy z B Q cost b n op
  cuts_as {cost} {b} {n} {op} c =
      let m = c.meets in
      subst (λ (k : System). CutsBy k B Q cost b n op) (sym e.system) (record {
        x = c.x;
        sum = c.sum;
        first = c.first;
        meets = record {
          from = m.from;
          to = m.to;
          member = (m.member.0, e.layers c.x m.member.0 m.from m.member.1);
          leads = m.leads;
          inside = e.into m.to m.inside;
        };
      })

  pub only_as : {R : State → Type 0} → LeadsOnlyFrom z B Q R → LeadsOnlyFrom y A P R
  only_as only x op s t i l p = only x op s t (i.0, e.layers x i.0 s i.1) (subst (λ (k : System). Leads k op s t) (sym e.system) l) (e.into t p)

-- both carry each other
pub record Agree (y z : System) (A B : At) (P Q : State → Type 0) : Type 0 where
  pub there : Carries y z A B P Q
  pub back : Carries z y B A Q P

-- in one view
pub agree_into : {y : System} {A : At} {P Q : State → Type 0} → ((s : State) → P s ↔ Q s) → Agree y y A A P Q
agree_into e = record {
  there = record { system = refl; layers = λ c i s h. h; into = λ s. (e s).0 };
  back = record { system = refl; layers = λ c i s h. h; into = λ s. (e s).1 };
}

pub held_now : {Set : Type 0} (v u : View Set) (l : Layers Set) → Held v l → Kept v u → Held u l
held_now v u l held k = holds_kept v u (rings_at l) (union_at l) k held

pub set_kept : {Set : Type 0} {v u : View Set} (a : Set) → Kept v u → Valid v a → (s : State) → Has v a s ↔ Has u a s
set_kept a k ok s = ((λ h. k.same a ok s ∙ h), (λ h. sym (k.same a ok s) ∙ h))

-- where sets are kept, from the earlier view to the later one and back
module _ {Set : Type 0} {v u : View Set} {m : Meeting Set} (held : AreHeld v m) (k : Kept v u) where
  pub carries_on : {P Q : State → Type 0} → ((s : State) → P s → Q s) → Carries v.system u.system (Stands v m.front.now) (Stands u m.front.now) P Q
  carries_on f = record { system = k.system; layers = λ c i s. (stands_kept v u m.front.now c i s k held.front).1; into = f }

  pub carries_back : {P Q : State → Type 0} → ((s : State) → P s → Q s) → Carries u.system v.system (Stands u m.front.now) (Stands v m.front.now) P Q
  carries_back f = record { system = sym k.system; layers = λ c i s. (stands_kept v u m.front.now c i s k held.front).0; into = f }

  pub agree_kept : {P Q : State → Type 0} → ((s : State) → P s ↔ Q s) → Agree v.system u.system (Stands v m.front.now) (Stands u m.front.now) P Q
  agree_kept e = record { there = carries_on (λ s. (e s).0); back = carries_back (λ s. (e s).1) }

  pub layer_kept : (n : ℕ) (s : State) → InLayer (Stands v m.back.now) n s ↔ InLayer (Stands u m.back.now) n s
  layer_kept n s = (
    (λ i. (i.0, (stands_kept v u m.back.now n i.0 s k held.back).1 i.1)),
    (λ i. (i.0, (stands_kept v u m.back.now n i.0 s k held.back).0 i.1)),
  )

  -- what the set is for, where what is led into is kept
  pub only_kept : {P Q : State → Type 0} → ((s : State) → Q s → P s) → LeadsOnlyFrom v.system (Stands v m.front.now) P (Has v m.room.now)
      → LeadsOnlyFrom u.system (Stands u m.front.now) Q (Has u m.room.now)
  only_kept f only x op s t i l q = (set_kept m.room.now k held.room s).0 (only_as (carries_back f) only x op s t i l q)

  pub both_held : AreHeld u m
  both_held = record {
    front = held_now v u m.front.now held.front k;
    back = held_now v u m.back.now held.back k;
    room = k.valid m.room.now held.room;
    inside = λ z. only_kept (λ s. (layer_kept z s).1) (held.inside z);
  }

-- the set of a layer
pub front_set : {Set : Type 0} {v : View Set} {m : Meeting Set} (x : ℕ) (whole : Set) → AreHeld v m → union_at m.front.now x ≡ Some whole → (s : State)
    → Has v whole s ↔ InLayer (Stands v m.front.now) x s
front_set {Set} {v} {m} x whole held e s = let l = m.front.now in (layer_at v (rings_at l x) (union_at l x) whole e (held.front.each x)).parts s

pub layer_set : {Set : Type 0} {v : View Set} {m : Meeting Set} (z : ℕ) (whole : Set) → AreHeld v m → union_at m.back.now z ≡ Some whole → (s : State)
    → Has v whole s ↔ InLayer (Stands v m.back.now) z s
layer_set {Set} {v} {m} z whole held e s = let l = m.back.now in (layer_at v (rings_at l z) (union_at l z) whole e (held.back.each z)).parts s
