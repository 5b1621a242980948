-- What an owner's sets in one space come to: one more, one less, all kept.
use Rattle.std.proofs.Common.{◌≢◌, IsTrue, IsFalse, ◌⊎◌, List, [], ◌∷◌, ◌++◌, inl, inr, sym, subst}
use Rattle.std.proofs.lemmas.List.{append-nil}
use Rattle.task_system.specs.System.{State}
use Rattle.space_api.specs.View.{View, Valid}
use Rattle.space_api.specs.Frames.{Kept, Gives, Forgot, Stays}
use Rattle.space_api.specs.Owned.{Amid, AllApart, Trades}
use Rattle.space_api.proofs.Owning.{amid_push}
use Rattle.space_api.proofs.Trading.{valid_clash, trades_stays}
use Rattle.space_tests.specs.Pairs.{AreOwn}
use Rattle.space_tests.proofs.Amidst.{amid_with, apart_without, apart_with}

-- one set more
module _ {Set : Type 0} {v v2 : View Set} {P : State → Type 0} (xs : List Set) (r : Set) (o : AreOwn v xs) (k : Kept v v2) (g : Gives v v2 P r) where
  other : (a : Set) → Amid xs a → a ≢ r
  other a m e = valid_clash (o.valid a m) (subst (λ (x : Set). IsFalse (v.valid x)) (sym e) g.fresh)

  new_valid : (a : Set) → Amid (xs ++ r ∷ []) a → Valid v2 a
  new_valid a m = elim ((amid_push xs r a).0 m) [
    | inl h ↦ k.valid a (o.valid a h)
    | inr e ↦ subst (λ (x : Set). IsTrue (v2.valid x)) (sym e) g.valid
  ]

  new_fresh : (a : Set) → Amid (xs ++ r ∷ []) a → ¬ Amid xs a → IsFalse (v.valid a)
  new_fresh a m n = elim ((amid_push xs r a).0 m) [
    | inl h ↦ absurd (n h)
    | inr e ↦ subst (λ (x : Set). IsFalse (v.valid x)) (sym e) g.fresh
  ]

  new_only : (a : Set) → Valid v2 a → Amid (xs ++ r ∷ []) a ⊎ Valid v a
  new_only a h = elim (g.only a h) [ inl o ↦ inr o | inr e ↦ inl ((amid_push xs r a).1 (inr e)) ]

  pub push_trades : Trades v v2 (Amid xs) (Amid (xs ++ r ∷ []))
  push_trades = record {
    system = k.system;
    owned = new_valid;
    fresh = new_fresh;
    given = λ a m h. (amid_push xs r a).1 (inl m);
    others = λ a h n. k.valid a h;
    only = new_only;
    same = λ a h n. k.same a h;
  }

  pub push_own : AreOwn v2 (xs ++ r ∷ [])
  push_own = record {
    valid = new_valid;
    apart = apart_with xs r [] (subst AllApart (sym (append-nil xs)) o.apart) (subst (λ (ys : List Set). (a : Set) → Amid ys a → a ≢ r) (sym (append-nil xs)) other);
  }

-- one set less
module _ {Set : Type 0} {v v2 : View Set} (before : List Set) (x : Set) (after : List Set) (o : AreOwn v (before ++ x ∷ after)) (f : Forgot v v2 x) where
  left_valid : (a : Set) → Amid (before ++ after) a → Valid v2 a
  left_valid a m = f.valid a (o.valid a ((amid_with before x after a).1 (inl m))) ((apart_without before x after o.apart).1 a m)

  was_other : (a : Set) → Amid (before ++ x ∷ after) a → Valid v2 a → Amid (before ++ after) a
  was_other a m h = elim ((amid_with before x after a).0 m) [
    | inl k ↦ k
    | inr e ↦ absurd (valid_clash h (subst (λ (y : Set). IsFalse (v2.valid y)) (sym e) f.gone))
  ]

  pub out_trades : Trades v v2 (Amid (before ++ x ∷ after)) (Amid (before ++ after))
  out_trades = record {
    system = f.system;
    owned = left_valid;
    fresh = λ a m n. absurd (n ((amid_with before x after a).1 (inl m)));
    given = was_other;
    others = λ a h n. f.valid a h (λ e. n ((amid_with before x after a).1 (inr e)));
    only = λ a h. inr (f.only a h);
    same = λ a h n. f.same a (f.valid a h (λ e. n ((amid_with before x after a).1 (inr e))));
  }

  pub out_own : AreOwn v2 (before ++ after)
  out_own = record { valid = left_valid; apart = (apart_without before x after o.apart).0 }

-- all stay
pub stay_trades : {Set : Type 0} {v v2 : View Set} (xs : List Set) → AreOwn v xs → Stays v v2 → Trades v v2 (Amid xs) (Amid xs)
stay_trades {v = v} {v2 = v2} xs o z = trades_stays v v2 (Amid xs) z o.valid

pub stay_own : {Set : Type 0} {v v2 : View Set} (xs : List Set) → AreOwn v xs → Stays v v2 → AreOwn v2 xs
stay_own xs o z = record { valid = λ a m. z.kept.valid a (o.valid a m); apart = o.apart }
