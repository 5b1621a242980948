-- Images and preimages have the states that operators lead to, or from.
use Rattle.std.proofs.Common.{◌≡◌, ◌↔◌, ℕ, ◌<◌, Bool, true, ◌&&◌, List, length, Some, IsTrue, sym, ◌∙◌, ap}
use Rattle.std.proofs.lemmas.Bool.{and_parts, and_from}
use Rattle.symk_task.specs.Steps.{Step}
use Rattle.symk_task.proofs.Running.{step_state}
use Rattle.task_system.specs.System.{State, Leads}
use Rattle.task_system.specs.Computed.{system_of}
use Rattle.task_system.proofs.RunsLaw.{leads_law}
use Rattle.bdd_table.specs.declared.node.Node.{Node}
use Rattle.bdd_table.specs.Diagram.{Bits, means, Keeps}
use Rattle.var_order.specs.Layout.{Layout, IsLayout}
use Rattle.var_order.specs.Codes.{IsStateOf}
use Rattle.var_order.proofs.Laying.{state_of, of_state}
use Rattle.space_api.specs.View.{Image, CostImage, Preimage, CostPreimage}
use Rattle.trans_merge.specs.Steps.{StepOfCost, ImageBy, PreimageBy}
use Rattle.bdd_space.specs.Slots.{set_at}
use Rattle.bdd_space.specs.Members.{has_state, IsKnownSet, HasThose}
use Rattle.bdd_space.specs.Symbolic.{Symbolic, IsSpace, Makes}
use Rattle.bdd_space.specs.Seen.{seen}
use Rattle.bdd_space.proofs.Having.{has_parts, has_member, member_has, those_has, has_those, set_of_those, conj_set, conj_has, alike_has, alike_set, kept_alike}
use Rattle.bdd_space.proofs.Keeping.{over, id_there, has_there}

-- by any relation of states

module _ (o : Layout) (old new : List Node) (f id : ℕ) (R : List ℕ → List ℕ → Type 0) (s : List ℕ) (l : IsLayout o) (set : IsKnownSet o old f) where
  image_has : ((t : List ℕ) → IsStateOf o t → R t s → IsStateOf o s) → HasThose o new (ImageBy o R (means old f)) id
      → (has_state o new id s ≡ true) ↔ ((t : List ℕ) × (has_state o old f t ≡ true) × R t s)
  image_has leads h = (
    (λ has. (let x = (those_has o new (ImageBy o R (means old f)) id s l h has).1 in (x.0, member_has o old f x.0 l set.set x.1 x.2, x.3))),
    (λ (t, has, r). (let state = (has_parts o old f t has).0 in has_those o new (ImageBy o R (means old f)) id s l h
        (leads t state r) (t, state, has_member o old f t l has, r))),
  )

  preimage_has : IsStateOf o s → HasThose o new (PreimageBy o R (means old f)) id → (has_state o new id s ≡ true)
      ↔ ((t : List ℕ) × (has_state o old f t ≡ true) × R s t)
  preimage_has state h = (
    (λ has. (let x = (those_has o new (PreimageBy o R (means old f)) id s l h has).1 in (x.0, member_has o old f x.0 l set.set x.1 x.2, x.3))),
    (λ (t, has, r). has_those o new (PreimageBy o R (means old f)) id s l h state (t, (has_parts o old f t has).0, has_member o old f t l has, r)),
  )

-- in a space

module _ (e : Symbolic) (start : List ℕ) (i : IsSpace e start) where
  -- an operator leads to states
  leads_to : (op : ℕ) (s t : List ℕ) → IsStateOf e.order s → Step e.task s op t → IsStateOf e.order t
  leads_to op s t state step = state_of e.task e.order t i.order (step_state e.task s op t i.fits (of_state e.task e.order s i.order state) step)

  leads : (op : ℕ) (s t : List ℕ) → IsStateOf e.order s → Leads (system_of e.task) op s t ↔ Step e.task s op t
  leads op s t state = leads_law e.task s op t i.fits (of_state e.task e.order s i.order state)

  module _ (a f : ℕ) (is : set_at e.sets a ≡ Some f) where
    known : IsKnownSet e.order e.nodes f
    known = id_there e.order e.nodes e.sets a f i.sets is

    seen_has : (t : State) → has_state e.order e.nodes f t ≡ true → IsTrue ((seen e).has a t)
    seen_has t h = has_there e a f t is ∙ h

    has_seen : (t : State) → IsTrue ((seen e).has a t) → has_state e.order e.nodes f t ≡ true
    has_seen t h = sym (has_there e a f t is) ∙ h

    pub image_made : (op : ℕ) (new : List Node) (id : ℕ) → HasThose e.order new
        (ImageBy e.order (λ s t. Step e.task s op t) (means e.nodes f)) id
        → Makes (over e new) (Image (seen e) op a) id
    image_made op new id h = record {
      set = set_of_those e.order new (ImageBy e.order (λ s t. Step e.task s op t) (means e.nodes f)) id h;
      has = λ s. (
          let law = image_has e.order e.nodes new f id (λ s t. Step e.task s op t) s i.order.layout known (λ t state step. leads_to op t s state step) h in (
            (λ has. (let x = law.0 has in (x.0, seen_has x.0 x.1, (leads op x.0 s (has_parts e.order e.nodes f x.0 x.1).0).1 x.2))),
            (λ (t, has, l). law.1 (t, has_seen t has, (leads op t s (has_parts e.order e.nodes f t (has_seen t has)).0).0 l)),
          ));
    }

    pub cost_image_made : (cost : ℕ) (new : List Node) (id : ℕ)
        → HasThose e.order new (ImageBy e.order (StepOfCost e.task cost) (means e.nodes f)) id
        → Makes (over e new) (CostImage (seen e) cost a) id
    cost_image_made cost new id h = record {
      set = set_of_those e.order new (ImageBy e.order (StepOfCost e.task cost) (means e.nodes f)) id h;
      has = λ s. (
          let law = image_has e.order e.nodes new f id (StepOfCost e.task cost) s i.order.layout known (λ t state step. leads_to step.0 t s state step.3) h in (
            (λ has. (let x = law.0 has in (x.2.0, x.2.2, (x.0, seen_has x.0 x.1, (leads x.2.0 x.0 s (has_parts e.order e.nodes f x.0 x.1).0).1 x.2.3)))),
            (λ (op, same, (t, has, l)). law.1 (t, has_seen t has, (op, l.number, same, (leads op t s (has_parts e.order e.nodes f t (has_seen t has)).0).0 l))),
          ));
    }

    module _ (within g : ℕ) (inside : set_at e.sets within ≡ Some g) (mid new : List Node) (found id : ℕ)
        (k : Keeps e.nodes mid) (at : id < length new) (is_both : (b : Bits) → means new id b
        ≡ (means mid found b && means mid g b)) where
      within_known : IsKnownSet e.order e.nodes g
      within_known = id_there e.order e.nodes e.sets within g i.sets inside

      within_has : (s : State) → has_state e.order mid g s ≡ (seen e).has within s
      within_has s = alike_has e.order e.nodes mid g g s (kept_alike e.nodes mid g k within_known.known) ∙ sym (has_there e within g s inside)

      both_set : (P : List ℕ → Type 0) → HasThose e.order mid P found → IsKnownSet e.order new id
      both_set P h = conj_set e.order mid new found g id i.order.layout (set_of_those e.order mid P found h)
          (alike_set e.order e.nodes mid g g (kept_alike e.nodes mid g k within_known.known) within_known) at
          is_both

      both_has : (s : State) → has_state e.order new id s ≡ (has_state e.order mid found s && (seen e).has within s)
      both_has s = conj_has e.order mid new found g id s is_both ∙ ap (λ (x : Bool). has_state e.order mid found s && x) (within_has s)

      both : (s : State) → (has_state e.order new id s ≡ true) ↔ ((has_state e.order mid found s ≡ true) × IsTrue ((seen e).has within s))
      both s = (
        (λ h. and_parts (has_state e.order mid found s) ((seen e).has within s) (sym (both_has s) ∙ h)),
        (λ h. both_has s ∙ and_from (has_state e.order mid found s) ((seen e).has within s) h.0 h.1),
      )

      within_state : (s : State) → IsTrue ((seen e).has within s) → IsStateOf e.order s
      within_state s h = (has_parts e.order mid g s (within_has s ∙ h)).0

      pub preimage_made : (op : ℕ) → HasThose e.order mid (PreimageBy e.order (λ s t. Step e.task s op t)
          (means e.nodes f)) found → Makes (over e new) (Preimage (seen e) op a within) id
      preimage_made op h = record {
        set = both_set (PreimageBy e.order (λ s t. Step e.task s op t) (means e.nodes f)) h;
        has = λ s. (
          (λ has. (
              let parts = (both s).0 has in
              let state = within_state s parts.1 in
              let x = (preimage_has e.order e.nodes mid f found (λ s t. Step e.task s op t) s i.order.layout known state h).0 parts.0 in
              (parts.1, (x.0, seen_has x.0 x.1, (leads op s x.0 state).1 x.2)))),
          (λ (inside, (t, has, l)). (
              let state = within_state s inside in
              (both s).1 (
                (preimage_has e.order e.nodes mid f found (λ s t. Step e.task s op t) s i.order.layout known
                    state h).1 (t, has_seen t has, (leads op s t state).0 l),
                inside,
              ))),
        );
      }

      pub cost_preimage_made : (cost : ℕ) → HasThose e.order mid
          (PreimageBy e.order (StepOfCost e.task cost) (means e.nodes f)) found
          → Makes (over e new) (CostPreimage (seen e) cost a within) id
      cost_preimage_made cost h = record {
        set = both_set (PreimageBy e.order (StepOfCost e.task cost) (means e.nodes f)) h;
        has = λ s. (
          (λ has. (
              let parts = (both s).0 has in
              let state = within_state s parts.1 in
              let x = (preimage_has e.order e.nodes mid f found (StepOfCost e.task cost) s i.order.layout known state h).0 parts.0 in
              (parts.1, (x.2.0, x.2.2, (x.0, seen_has x.0 x.1, (leads x.2.0 s x.0 state).1 x.2.3))))),
          (λ (inside, (op, same, (t, has, l))). (
              let state = within_state s inside in
              (both s).1 (
                (preimage_has e.order e.nodes mid f found (StepOfCost e.task cost) s i.order.layout known
                    state h).1 (t, has_seen t has, (op, l.number, same, (leads op s t state).0 l)),
                inside,
              ))),
        );
      }
