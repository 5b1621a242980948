-- Layers in a view in which their sets stay.
use Rattle.std.proofs.Common.{◌≡◌, ℕ, ◌-◌, ◌<◌, ◌≤◌, ◌⊎◌, ◌↔◌, inl, inr, Bool, List, [], length, Option, Some, None, MatchOption, refl, sym, ◌∙◌, subst, arith}
use Rattle.std.proofs.lemmas.List.Elements.{All-weaker}
use Rattle.task_system.specs.System.{State, System}
use Rattle.space_api.specs.View.{View, Valid}
use Rattle.space_api.specs.Frames.{Kept}
use Rattle.space_api.specs.Owned.{Trades}
use Rattle.space_api.proofs.Trading.{trades_trans}
use Rattle.cost_layers.specs.Rings.{IsCostLayer}
use Rattle.cost_layers.specs.Layers.{rings_at, union_at, Held, KeepsSet, Stands as StandsIn}
use Rattle.cost_layers.specs.declared.layers.Layers.{Layers}
use Rattle.cost_layers.proofs.Holding.{ring_same, layer_same, layer_at, kept_valid}
use Rattle.plan_cuts.specs.Entries.{Tables}
use Rattle.reconstruct.specs.Entries.{in_some, member_in, SetIn, RightSides}
use Rattle.reconstruct.specs.Ways.{IsFirstRing}
use Rattle.reconstruct.specs.Moves.{LeadsNotOn, IsMove}
use Rattle.reconstruct.specs.Expansions.{AreRightExpansions}
use Rattle.reconstruct.specs.declared.moves.Move.{Move}
use Rattle.reconstruct.specs.declared.expansions.Expansions.{Expansions}
use Rattle.reconstruct.specs.declared.entries.Entry.{Entry}
use Rattle.reconstruct.specs.Walked.{AreEntriesApart}

one_or : (n : ℕ) → 1 ≤ n → (n ≡ 1) ⊎ (2 ≤ n)
one_or n h = grind arith

pub whole_kept : {Set : Type 0} (v : View Set) (l : Layers Set) (c : ℕ) (a : Set) → Held v l → union_at l c ≡ Some a → KeepsSet l a
whole_kept v l c a h e =
    let x = layer_at v (rings_at l c) (union_at l c) a e (h.each c) in
    elim (one_or (length (rings_at l c)) x.some) [ inl one ↦ inl (c, 0, x.one one) | inr two ↦ inr (c, (e, two)) ]

module _ {Set : Type 0} (v w : View Set) (l : Layers Set) (h : Held v l)
    (f : (a : Set) → KeepsSet l a → Valid w a × ((s : State) → w.has a s ≡ v.has a s)) where
  pub stands_same : (c i : ℕ) (s : State) → StandsIn w l c i s ↔ StandsIn v l c i s
  stands_same c i s = ring_same v w (rings_at l c) i s (λ a is. (f a (inl (c, i, is))).1 s)

  each_in : (c : ℕ) (o : Option Set) → union_at l c ≡ o → MatchOption o (rings_at l c ≡ []) (IsCostLayer v (rings_at l c))
      → MatchOption o (rings_at l c ≡ []) (IsCostLayer w (rings_at l c))
  each_in c None e k = k
  each_in c (Some a) e k =
      let o = f a (whole_kept v l c a h e) in
      layer_same v w (rings_at l c) a k (λ i b is. (f b (inl (c, i, is))).0) (λ i b s is. (f b (inl (c, i, is))).1 s) o.0 o.1

  pub held_in : Held w l
  held_in = record {
    each = λ c. each_in c (union_at l c) refl (h.each c);
    one_ring = h.one_ring;
    no_whole = h.no_whole;
    one_whole = h.one_whole;
  }

  some_same : (o : Option Set) (s : State) → ((a : Set) → o ≡ Some a → KeepsSet l a) → in_some w o s ≡ in_some v o s
  some_same None s k = refl
  some_same (Some a) s k = (f a (k a refl)).1 s

  pub member_same : member_in w l ≡ member_in v l
  member_same = λ i c s. some_same (union_at l c) s (λ a is. whole_kept v l c a h is) i

  -- so do moves from states
  first_same : (c : ℕ) (s : State) (n : ℕ) → IsFirstRing v l c s n → IsFirstRing w l c s n
  first_same c s n i m at = let r = i m ((stands_same c m s).0 at) in (r.0, (stands_same c n s).1 r.1)

  not_same : w.system ≡ v.system → (c : ℕ) (s : State) (op : ℕ) → LeadsNotOn v l c s op → LeadsNotOn w l c s op
  not_same sys c s op none = rw sys (λ a t le at lead has. none a t le at lead (sym ((f a (whole_kept v l (c - v.system.cost op) a h at)).1 t) ∙ has))

  move_same : w.system ≡ v.system → (c : ℕ) (s : State) (m : Move) → IsMove v l c s m → IsMove w l c s m
  move_same sys c s m move = record {
    number = rw sys move.number;
    fits = rw sys move.fits;
    cost_is = rw sys move.cost_is;
    leads = rw sys move.leads;
    lands = rw sys (
      move.lands.0,
      move.lands.1,
      (f move.lands.0
          (whole_kept v l (c - v.system.cost m.op) move.lands.0 h move.lands.1)).1 m.state ∙ move.lands.2,
    );
    least = rw sys (first_same (c - v.system.cost m.op) m.state m.ring move.least);
    small = move.small;
  }

  pub right_same : w.system ≡ v.system → (x : Expansions) → AreRightExpansions v l x → AreRightExpansions w l x
  right_same sys x right c s moves ends r =
      let now = right c s moves ends r in
      record {
        all = record {
          rising = now.all.rising;
          each = All-weaker (IsMove v l c s) (IsMove w l c s) (move_same sys c s) moves now.all.each;
          others = λ op lt missing. not_same sys c s op (now.all.others op (subst (λ (y : System). op < y.operators) sys lt) missing);
        };
        end = rw sys now.end;
      }

pub sides_same : {Set : Type 0} {y : System} {v w : View Set} {front back : Layers Set} {f b : ℕ}
    → member_in w front ≡ member_in v front → member_in w back ≡ member_in v back
    → ((c i : ℕ) (s : State) → StandsIn w front c i s ↔ StandsIn v front c i s)
    → ((c i : ℕ) (s : State) → StandsIn w back c i s ↔ StandsIn v back c i s) → RightSides y v front back f b
    → RightSides y w front back f b
sides_same {y = y} {v = v} {w = w} {front = front} {back = back} {f = f} {b = b} mf mb sf sb r = record {
  tables = subst (λ (q : ℕ → State → Bool). Tables y (member_in w front) q f b) (sym mb)
      (subst (λ (p : ℕ → State → Bool). Tables y p (member_in v back) f b) (sym mf) r.tables);
  front_rings = record {
    sound = λ c n s lt use1 at. r.front_rings.sound c n s lt use1 ((sf c n s).0 at);
    there = λ c n s lt use1 g. let m = r.front_rings.there c n s lt use1 g in (m.0, m.1, (sf c m.0 s).1 m.2);
  };
  back_rings = record {
    sound = λ c n s lt use1 at. r.back_rings.sound c n s lt use1 ((sb c n s).0 at);
    there = λ c n s lt use1 g. let m = r.back_rings.there c n s lt use1 g in (m.0, m.1, (sb c m.0 s).1 m.2);
  };
}

-- sets that an owner trades, and layers that keep none of its old ones
module _ {Set : Type 0} (u v : View Set) (old new : List (Entry Set)) (t : Trades u v (SetIn old) (SetIn new))
    (l : Layers Set) (h : Held u l) (apart : AreEntriesApart old l) where
  pub traded : (a : Set) → KeepsSet l a → Valid v a × ((s : State) → v.has a s ≡ u.has a s)
  traded a k =
      let ok : Valid u a = kept_valid u (rings_at l) (union_at l) h a k in
      let out : ¬ SetIn old a = λ i. apart a i k in
      (t.others a ok out, t.same a ok out)

  -- moves stay right
  pub right_there : (x : Expansions) → AreRightExpansions u l x → AreRightExpansions v l x
  right_there x right = right_same u v l h traded t.system x right

  -- moves that were found since are right in the view before
  pub right_before : (x : Expansions) → AreRightExpansions v l x → AreRightExpansions u l x
  right_before x right = right_same v u l (held_in u v l h traded)
      (λ a k. (kept_valid u (rings_at l) (union_at l) h a k, λ s. sym ((traded a k).1 s))) (sym t.system) x right

-- moves that were found in one turn are right after it
pub right_on : {Set : Type 0} {u v w : View Set} (old now new : List (Entry Set)) → Trades u v (SetIn old) (SetIn now)
    → Trades v w (SetIn now) (SetIn new) → (l : Layers Set) → Held u l → AreEntriesApart old l
    → (x : Expansions) → AreRightExpansions v l x → AreRightExpansions w l x
right_on {u = u} {v = v} {w = w} old now new t t2 l h apart x right =
    right_there u w old new (trades_trans t t2) l h apart x (right_before u v old now t l h apart x right)

-- all sets stay
pub right_kept : {Set : Type 0} (v w : View Set) (l : Layers Set) (x : Expansions) → Held v l → Kept v w → AreRightExpansions v l x → AreRightExpansions w l x
right_kept v w l x h k right = right_same v w l h (λ a keeps.
    let ok = kept_valid v (rings_at l) (union_at l) h a keeps in (k.valid a ok, k.same a ok)) k.system x right
