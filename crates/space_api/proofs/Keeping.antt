-- What two calls keep, one after the other.
use Rattle.std.proofs.Common.{◌≢◌, ◌↔◌, IsFalse, refl, sym, ◌∙◌, subst, inl, inr}
use Rattle.task_system.specs.System.{State}
use Rattle.space_api.specs.View.{View, Valid}
use Rattle.space_api.specs.Frames.{Kept, Gives, Forgot, Stays}

pub kept_refl : {Set : Type 0} (v : View Set) → Kept v v
kept_refl v = record { system = refl; valid = λ a h. h; same = λ a h s. refl }

pub kept_trans : {Set : Type 0} {u v w : View Set} → Kept u v → Kept v w → Kept u w
kept_trans j k = record {
  system = k.system ∙ j.system;
  valid = λ a h. k.valid a (j.valid a h);
  same = λ a h s. k.same a (j.valid a h) s ∙ j.same a h s;
}

pub stays_refl : {Set : Type 0} (v : View Set) → Stays v v
stays_refl v = record { kept = kept_refl v; only = λ a h. h }

pub stays_trans : {Set : Type 0} {u v w : View Set} → Stays u v → Stays v w → Stays u w
stays_trans j k = record { kept = kept_trans j.kept k.kept; only = λ a h. j.only a (k.only a h) }

-- a set that is made and given back
module _ {Set : Type 0} {u v w : View Set} {P : State → Type 0} {r : Set} (k : Kept u v) (g : Gives u v P r) (f : Forgot v w r) where
  valid_apart : (a : Set) → Valid u a → a ≢ r
  valid_apart a h e = let gone : IsFalse (u.valid a) = subst (λ (x : Set). IsFalse (u.valid x)) (sym e) g.fresh in cc

  only : (a : Set) → Valid w a → Valid u a
  only a h = elim (g.only a (f.only a h)) [
    | inl o ↦ o
    | inr e ↦ (let gone : IsFalse (w.valid a) = subst (λ (x : Set). IsFalse (w.valid x)) (sym e) f.gone in absurd (cc))
  ]

  pub given_back : Stays u w
  given_back = record {
    kept = record {
      system = f.system ∙ k.system;
      valid = λ a h. f.valid a (k.valid a h) (valid_apart a h);
      same = λ a h s. f.same a (f.valid a (k.valid a h) (valid_apart a h)) s ∙ k.same a h s;
    };
    only = only;
  }

-- a set that was made stays through calls that keep all sets as they are
pub gives_stays : {Set : Type 0} {u v w : View Set} {P : State → Type 0} {r : Set} → Gives u v P r → Stays v w → Gives u w P r
gives_stays {r = r} g z = record {
  fresh = g.fresh;
  valid = z.kept.valid r g.valid;
  only = λ a h. g.only a (z.only a h);
  means = λ s. ((λ h. (g.means s).0 (sym (z.kept.same r g.valid s) ∙ h)), (λ p. z.kept.same r g.valid s ∙ (g.means s).1 p));
}

-- the same set, its states told in other words
pub gives_as : {Set : Type 0} {v w : View Set} {P Q : State → Type 0} {r : Set} → ((s : State) → P s ↔ Q s) → Gives v w P r → Gives v w Q r
gives_as same g = record {
  fresh = g.fresh;
  valid = g.valid;
  only = g.only;
  means = λ s. ((λ h. (same s).0 ((g.means s).0 h)), (λ q. (g.means s).1 ((same s).1 q)));
}
