-- Plans that go out one by one.
use Rattle.std.proofs.Common.{◌≡◌, ◌∙◌, ap, sym, refl, subst, inl, inr, ℕ, ◌+◌, ◌<◌, ◌≤◌, ◌⊎◌, List, [], ◌∷◌, ◌++◌, length, take, Option, Some, None, Result, Ok, Err, MatchResult, IfOk, arith}
use Rattle.std.proofs.lemmas.List.{length_push}
use Rattle.symk_io.specs.View.{Bytes, SinkView}
use Rattle.symk_task.specs.declared.parts.TaskParts.{TaskParts}
use Rattle.plan_out.specs.declared.end.End.{End}
use Rattle.plan_out.specs.declared.end.End.TheVariants as end
use Rattle.plan_out.specs.Texts.{block, end_line}
use Rattle.plan_run.specs.Missed.{MissesPlan}
use Rattle.run_status.specs.Sent.{Sent, nothing, Took, TookPiece, TookFront, IsFrontOfPieces}
use Rattle.run_status.specs.Ends.{EndsWithText, FrontOf, PutsOutWith}
use Rattle.plan_run.specs.Lists.{Aim, blocks_from, list_pieces, IsListOf, IsEndOf, end_status, gap_text, Listing, MayCome, PartListing, OrPart}
use Rattle.run_status.specs.declared.status.Status.{Status}
use Rattle.run_status.specs.declared.status.Status.TheVariants as status
use Rattle.run_status.proofs.Took.{all_of, took_nothing, took_piece, took_front, took_after, front_of_all, front_of_last}

-- What went out so far are the blocks of a list of so many plans, each a piece, of which this holds.
pub record Listed (a : Aim) (Holds : List (List ℕ) → Type 0) (old new : SinkView) (count : ℕ) : Type 0 where
  pub plans : List (List ℕ)
  pub holds : Holds plans
  pub number : length plans ≡ count
  pub took : Took (all_of (list_pieces a plans)) old new

-- where this holds of a list, it promises, after the earlier one, what a list of the mode does, while it goes on and with the end
abbrev pub Promises : Aim → (List (List ℕ) → Type 0) → Option End → Type 0
Promises a Holds ended = (plans : List (List ℕ)) → Holds plans → IsListOf a.task a.mode a.limit (a.earlier ++ plans) ended

-- the number of the next block
abbrev pub next_number : Aim → ℕ → ℕ
next_number a count = length a.earlier + count + 1

-- the blocks of one more plan
blocks_push : (task : TaskParts) (i : ℕ) (plans : List (List ℕ)) (plan : List ℕ) → blocks_from task i (plans ++ (plan ∷ [])) ≡ blocks_from task i plans ++ (block task (i + length plans) plan ∷ [])
blocks_push task i [] plan = ap (λ n. block task n plan ∷ []) (let n : i ≡ i + 0 = omega arith in n)
blocks_push task i (p ∷ plans) plan =
    let n : i + 1 + length plans ≡ i + length (p ∷ plans) = omega arith in
    ap (λ x. block task i p ∷ x) (blocks_push task (i + 1) plans plan ∙ ap (λ n. blocks_from task (i + 1) plans ++ (block task n plan ∷ [])) n)

pieces_push : (a : Aim) (plans : List (List ℕ)) (plan : List ℕ) (count : ℕ) → length plans ≡ count → list_pieces a (plans ++ (plan ∷ [])) ≡ list_pieces a plans ++ (block a.task (next_number a count) plan ∷ [])
pieces_push a plans plan count e =
    blocks_push a.task (length a.earlier + 1) plans plan
    ∙ ap (λ n. list_pieces a plans ++ (block a.task n plan ∷ [])) (let n : length a.earlier + 1 + length plans ≡ length a.earlier + count + 1 = omega (arith, e) in n)

-- no plan yet
pub listed_none : (a : Aim) (Holds : List (List ℕ) → Type 0) (old : SinkView) → Holds [] → Listed a Holds old old 0
listed_none a Holds old holds = record { plans = []; holds = holds; number = refl; took = took_nothing old }

-- what holds in other words
pub listed_as : (a : Aim) (Holds Other : List (List ℕ) → Type 0) (old new : SinkView) (count : ℕ) → ((plans : List (List ℕ)) → Holds plans → Other plans) → Listed a Holds old new count → Listed a Other old new count
listed_as a Holds Other old new count also l = record { plans = l.plans; holds = also l.plans l.holds; number = l.number; took = l.took }

-- one more block went out
pub listed_more : (a : Aim) (Holds After : List (List ℕ) → Type 0) (old then new : SinkView) (count : ℕ) (plan : List ℕ)
    → ((plans : List (List ℕ)) → Holds plans → After (plans ++ plan ∷ [])) → Listed a Holds old then count → TookPiece (block a.task (next_number a count) plan) then new
    → Listed a After old new (count + 1)
listed_more a Holds After old then new count plan more l put = record {
  plans = l.plans ++ (plan ∷ []);
  holds = more l.plans l.holds;
  number = length_push l.plans plan ∙ ap (λ n. n + 1) l.number;
  took = subst (λ (pieces : List Bytes). Took (all_of pieces) old new) (sym (pieces_push a l.plans plan count l.number)) (took_after (list_pieces a l.plans) _ old then new l.took (took_piece _ then new put));
}

stopped_is_part : (a : Aim) (result : Status) (out : Sent) → (result ≡ status.WriteFault) ⊎ (result ≡ status.Memory) → FrontOf (MayCome a) out ⊎ PartListing a out → OrPart a result out
stopped_is_part a result out (inl e) p = subst (λ s. OrPart a s out) (sym e) p
stopped_is_part a result out (inr e) p = subst (λ s. OrPart a s out) (sym e) p

-- nothing goes out, when out of memory
pub memory_lists : (a : Aim) (old : SinkView) → PutsOutWith (OrPart a) old old status.Memory
memory_lists a old = (nothing, took_nothing old, inl (inl refl))

-- where no block went out, nothing did
took_none : (a : Aim) (plans : List (List ℕ)) (old new : SinkView) → plans ≡ [] → Took (all_of (list_pieces a plans)) old new → Took nothing old new
took_none a plans old new e took = subst (λ (l : List (List ℕ)). Took (all_of (list_pieces a l)) old new) e took

-- the list stops before its first plan
pub none_stops : (a : Aim) (plans : List (List ℕ)) (old new : SinkView) (result : Status) → plans ≡ [] → (result ≡ status.WriteFault) ⊎ (result ≡ status.Memory) → Took (all_of (list_pieces a plans)) old new
    → PutsOutWith (OrPart a) old new result
none_stops a plans old new result e why took = (nothing, took_none a plans old new e took, stopped_is_part a result nothing why (inl (inl refl)))

-- the list stops after so many plans
pub listed_stops : (a : Aim) (Holds : List (List ℕ) → Type 0) (old new : SinkView) (count : ℕ) (result : Status) → Promises a Holds None
    → (result ≡ status.WriteFault) ⊎ (result ≡ status.Memory) → Listed a Holds old new count → count ≤ a.wanted.count → PutsOutWith (OrPart a) old new result
listed_stops a Holds old new count result promises why l le =
    let n : length l.plans ≤ a.wanted.count = omega (arith, l.number, le) in
    let part : PartListing a (all_of (list_pieces a l.plans)) = record { plans = l.plans; promise = promises l.plans l.holds; number = n; front = front_of_all (list_pieces a l.plans) } in
    (all_of (list_pieces a l.plans), l.took, stopped_is_part a result _ why (inr part))

-- a part of one more block went out
pub block_stops : (a : Aim) {Holds : List (List ℕ) → Type 0} (After : List (List ℕ) → Type 0) {old then : SinkView} (new : SinkView) {count : ℕ} (plan : List ℕ) (result : Status)
    → Promises a After None → (result ≡ status.WriteFault) ⊎ (result ≡ status.Memory) → ((plans : List (List ℕ)) → Holds plans → After (plans ++ plan ∷ []))
    → Listed a Holds old then count → count < a.wanted.count
    → TookFront (block a.task (next_number a count) plan) then new → PutsOutWith (OrPart a) old new result
block_stops a After {old = old} {then = then} new {count = count} plan result promises why more l lt put =
    let text = block a.task (next_number a count) plan in
    let p = took_front text then new put in
    let plans = l.plans ++ (plan ∷ []) in
    let n : length plans ≤ a.wanted.count = omega (arith, length_push l.plans plan, l.number, lt) in
    let out : Sent = record { pieces = list_pieces a l.plans ++ []; rest = take p.0 text } in
    let front : IsFrontOfPieces out (list_pieces a plans) = front_of_last (list_pieces a l.plans) text p.0 _ (pieces_push a l.plans plan count l.number) in
    let part : PartListing a out = record { plans = plans; promise = promises plans (more l.plans l.holds); number = n; front = front } in
    (out, took_after (list_pieces a l.plans) _ old then new l.took p.1, stopped_is_part a result out why (inr part))

-- the list that ends so
listing_of : (a : Aim) (Holds : List (List ℕ) → Type 0) (count : ℕ) (why : End) (old mid : SinkView) (l : Listed a Holds old mid count)
    → Promises a Holds (Some why) → IsEndOf a.wanted (length a.earlier) count why → Listing a (end_status why) (list_pieces a l.plans ++ (end_line why ∷ []))
listing_of a Holds count why old mid l promises fits = record {
  plans = l.plans;
  ended = why;
  promise = promises l.plans l.holds;
  fits = subst (λ n. IsEndOf a.wanted (length a.earlier) n why) (sym l.number) fits;
  says = refl;
  pieces = refl;
}

-- a whole list
whole_lists : (a : Aim) (why : End) (pieces : List Bytes) → Listing a (end_status why) pieces → OrPart a (end_status why) (all_of pieces)
whole_lists a (end.Reached n) pieces l = (inl l, refl)
whole_lists a (end.More n) pieces l = (inl l, refl)
whole_lists a (end.Bounded n) pieces l = (inl l, refl)
whole_lists a (end.Exhausted n) pieces l = (inl l, refl)
whole_lists a end.CostRange pieces l = (inl l, refl)

ending_stops : (a : Aim) {Holds : List (List ℕ) → Type 0} {count : ℕ} (why : End) {old mid : SinkView} (new : SinkView) (result : Status)
    → (result ≡ status.WriteFault) ⊎ (result ≡ status.Memory) → Listed a Holds old mid count → Promises a Holds (Some why) → IsEndOf a.wanted (length a.earlier) count why
    → TookFront (end_line why) mid new → PutsOutWith (OrPart a) old new result
ending_stops a {Holds = Holds} {count = count} why {old = old} {mid = mid} new result stop l promises fits took =
    let whole = list_pieces a l.plans ++ (end_line why ∷ []) in
    let p = took_front (end_line why) mid new took in
    let out : Sent = record { pieces = list_pieces a l.plans ++ []; rest = take p.0 (end_line why) } in
    let front : IsFrontOfPieces out whole = front_of_last (list_pieces a l.plans) (end_line why) p.0 whole refl in
    let listing = listing_of a Holds count why old mid l promises fits in
    (out, took_after (list_pieces a l.plans) _ old mid new l.took p.1, stopped_is_part a result out stop (inl (inr (end_status why, whole, inl listing, front))))

-- the line that ends the list
pub list_ends : (a : Aim) {Holds : List (List ℕ) → Type 0} {count : ℕ} (why : End) {old mid : SinkView} (new : SinkView) (result : Status)
    → Listed a Holds old mid count → Promises a Holds (Some why) → IsEndOf a.wanted (length a.earlier) count why
    → EndsWithText (end_status why) (end_line why) mid new result
    → PutsOutWith (OrPart a) old new result
list_ends a {Holds = Holds} {count = count} why {old = old} {mid = mid} new result l promises fits (inl h) = (
  all_of (list_pieces a l.plans ++ (end_line why ∷ [])),
  took_after (list_pieces a l.plans) _ old mid new l.took (took_piece (end_line why) mid new h.1),
  subst (λ s. OrPart a s (all_of (list_pieces a l.plans ++ (end_line why ∷ [])))) (sym h.0)
      (whole_lists a why _ (listing_of a Holds count why old mid l promises fits)),
)
list_ends a why new result l promises fits (inr (inl h)) = ending_stops a why new result (inl h.0) l promises fits h.1
list_ends a why new result l promises fits (inr (inr h)) = ending_stops a why new result (inr h.0) l promises fits h.1

-- what the earlier list misses
gap_of : (a : Aim) (cost : ℕ) → MissesPlan a.task a.mode a.earlier cost → MayCome a status.Gap (gap_text cost ∷ [])
gap_of a cost misses = inr (record { cost = cost; misses = misses; says = refl; pieces = refl })

gap_stops : (a : Aim) (cost : ℕ) (mid new : SinkView) (result : Status) → MissesPlan a.task a.mode a.earlier cost
    → (result ≡ status.WriteFault) ⊎ (result ≡ status.Memory) → TookFront (gap_text cost) mid new
    → PutsOutWith (OrPart a) mid new result
gap_stops a cost mid new result misses why took =
    let p = took_front (gap_text cost) mid new took in
    let whole : List Bytes = gap_text cost ∷ [] in
    (record { pieces = []; rest = take p.0 (gap_text cost) }, p.1, stopped_is_part a result _ why (inl (inr (status.Gap, whole, gap_of a cost misses, front_of_last [] (gap_text cost) p.0 whole refl))))

gap_puts : (a : Aim) (cost : ℕ) (mid new : SinkView) (result : Status) → MissesPlan a.task a.mode a.earlier cost
    → EndsWithText status.Gap (gap_text cost) mid new result → PutsOutWith (OrPart a) mid new result
gap_puts a cost mid new result misses (inl h) =
    (all_of (gap_text cost ∷ []), took_piece (gap_text cost) mid new h.1, subst (λ s. OrPart a s (all_of (gap_text cost ∷ []))) (sym h.0) (gap_of a cost misses, refl))
gap_puts a cost mid new result misses (inr (inl h)) = gap_stops a cost mid new result misses (inl h.0) h.1
gap_puts a cost mid new result misses (inr (inr h)) = gap_stops a cost mid new result misses (inr h.0) h.1

-- the same after nothing
puts_on : (a : Aim) (old mid new : SinkView) (result : Status) → Took nothing old mid
    → PutsOutWith (OrPart a) mid new result → PutsOutWith (OrPart a) old new result
puts_on a old mid new result none p = (p.0, took_after [] p.0 old mid new none p.1, p.2)

-- the line that says so, if there was memory for it
pub gap_ends : {E : Type 0} (a : Aim) {Holds : List (List ℕ) → Type 0} {count : ℕ} (cost : ℕ) (made : Result Bytes E) {old mid : SinkView} (new : SinkView) (result : Status)
    → Listed a Holds old mid count → ((plans : List (List ℕ)) → Holds plans → (plans ≡ []) × MissesPlan a.task a.mode a.earlier cost)
    → IfOk made (λ text. text ≡ gap_text cost)
    → MatchResult made (λ text. EndsWithText status.Gap text mid new result)
    (λ _. (result ≡ status.Memory) × (new ≡ mid)) → PutsOutWith (OrPart a) old new result
gap_ends a cost (Ok text) {old = old} {mid = mid} new result l misses is ends =
    let m = misses l.plans l.holds in
    puts_on a old mid new result (took_none a l.plans old mid m.0 l.took)
    (gap_puts a cost mid new result m.1 (subst (λ (t : Bytes). EndsWithText status.Gap t mid new result) is ends))
gap_ends a cost (Err e) {old = old} new result l misses is ends =
    let m = misses l.plans l.holds in
    let stayed : Took (all_of (list_pieces a l.plans)) old new = subst (λ (v : SinkView). Took (all_of (list_pieces a l.plans)) old v) (sym ends.1) l.took in
    none_stops a l.plans old new result m.0 (inr ends.0) stayed
