-- What noting a plan tells.
use Rattle.std.proofs.Common.{◌≡◌, ℕ, ◌≤◌, Bool, true, false, List, [], ◌∷◌, ◌++◌, length, MatchBool, arith}
use Rattle.std.specs.List.{All, Contains}
use Rattle.std.proofs.lemmas.List.Elements.{All-push, All-weaker}
use Rattle.symk_task.specs.declared.parts.Mode.{Mode}
use Rattle.symk_task.specs.Plans.{IsListed}
use Rattle.lazy_plans.specs.SelectorsOwe.{IsClassKey}
use Rattle.lazy_plans.proofs.Keyed.{listed_by_key, key_by_listed}
use Rattle.selectors.specs.Noted.{IsPlanNoted}

pub noted : (mode : Mode) (old new : List (List ℕ)) (p key : List ℕ) (fresh : Bool)
    → All (λ other. (q : List ℕ) × IsClassKey mode q other) old → IsClassKey mode p key
    → MatchBool fresh (new ≡ old ++ key ∷ []) (new ≡ old) → MatchBool fresh (¬ Contains old key) (Contains old key)
    → MatchBool fresh (IsPlanNoted mode old new p) (IsListed mode old p × (new ≡ old))
noted mode old new p key true each is more found = record { key = key; is = is; fresh = (λ m. found (key_by_listed mode old p key each is m)); more = more }
noted mode old new p key false each is more found = (listed_by_key mode old p key is found, more)

-- keys that fit the room, and one more
pub short_more : (before after : ℕ) (keys new : List (List ℕ)) (key : List ℕ) (fresh : Bool)
    → All (λ other. length other ≤ before) keys → before ≤ after → length key ≤ after
    → MatchBool fresh (new ≡ keys ++ key ∷ []) (new ≡ keys) → All (λ other. length other ≤ after) new
short_more before after keys new key true short grows fits more =
    rw more (All-push (λ other. length other ≤ after) keys key
    (All-weaker (λ other. length other ≤ before) (λ other. length other ≤ after)
    (λ other h. omega (arith, h, grows)) keys short) fits)
short_more before after keys new key false short grows fits more =
    rw more (All-weaker (λ other. length other ≤ before) (λ other. length other ≤ after)
    (λ other h. omega (arith, h, grows)) keys short)
