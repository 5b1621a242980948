-- A whole plan text is read exactly.
use Rattle.std.proofs.Common.{◌≡◌, ◌≢◌, ℕ, suc, ◌+◌, ◌-◌, ◌^◌, ◌<◌, ◌≤◌, ◌⊎◌, inl, inr, Bool, true, false, ◌||◌, List, [], ◌∷◌, ◌++◌, length, get_or, take, Result, Ok, Err, MatchResult, IfOk, IfErr, refl, sym, ap, subst, ◌∙◌, arith, codes, append_assoc, length-append, zero-add}
use Rattle.std.proofs.Math.Seq.{take-append_seam, take-append-add}
use Rattle.std.proofs.lemmas.List.{append-nil}
use Rattle.std.proofs.lemmas.List.Elements.{All-head, All-tail, All-push}
use Rattle.std.proofs.lemmas.Slice.Eq.{bytes_eq-Decides}
use Rattle.std.specs.Str.{bytes_eq}
use Rattle.std.specs.List.{All}
use Rattle.line_grammar.specs.declared.Offence.{Offence}
use Rattle.line_grammar.specs.Rows.{Lines, Spells, IsFront, Offends}
use Rattle.line_grammar.specs.declared.Stopped.{Stopped}
use Rattle.line_grammar.specs.declared.Stopped.TheVariants as stopped
use Rattle.line_grammar.specs.Reading.{FailsReading}
use Rattle.line_grammar.proofs.Exact as grammar
use Rattle.line_grammar.specs.Fields.{is_numbered}
use Rattle.line_grammar.proofs.Alone.{numbered_is, numbered_again}
use Rattle.plan_out.specs.declared.blocks.ReadBlock.{ReadBlock}
use Rattle.plan_out.specs.Plans.{PlanRow, plan, IsPlanRowSpelled, block_rows, rows_from, IsBlock, IsEndLine, IsEnding, IsPlansOf}
use Rattle.plan_out.specs.Reading.{says_enough, says_all, is_end, begins_with_end, read_block_at, IsAfterEnd, Refuses}
use Rattle.plan_out.proofs.BlockRows.{shape_of}
use Rattle.plan_out.proofs.OneBlock.{exact_block}

-- End lines.

-- one of two tests is met
one_of : (t u : Bool) → (t || u) ≡ true → (t ≡ true) ⊎ (u ≡ true)
one_of true u e = inl refl
one_of false u e = inr e

by_second : (t u : Bool) → u ≡ true → (t || u) ≡ true
by_second true u e = refl
by_second false u e = e

enough_is : (n : ℕ) (line : List ℕ) → (is_numbered (codes "; reached ") n line ≡ true) ⊎ (is_numbered (codes "; more ") n line ≡ true) → IsEndLine n line
enough_is n line (inl e) = inl (numbered_is (codes "; reached ") n line e)
enough_is n line (inr e) = inr (inr (inl (numbered_is (codes "; more ") n line e)))

all_is : (n : ℕ) (line : List ℕ) → (is_numbered (codes "; exhausted ") n line ≡ true) ⊎ (is_numbered (codes "; bounded ") n line ≡ true) → IsEndLine n line
all_is n line (inl e) = inr (inl (numbered_is (codes "; exhausted ") n line e))
all_is n line (inr e) = inr (inr (inr (inl (numbered_is (codes "; bounded ") n line e))))

counted_is : (n : ℕ) (line : List ℕ) → (says_enough n line ≡ true) ⊎ (says_all n line ≡ true) → IsEndLine n line
counted_is n line (inl e) = enough_is n line (one_of (is_numbered (codes "; reached ") n line) (is_numbered (codes "; more ") n line) e)
counted_is n line (inr e) = all_is n line (one_of (is_numbered (codes "; exhausted ") n line) (is_numbered (codes "; bounded ") n line) e)

any_is : (n : ℕ) (line : List ℕ) → ((says_enough n line || says_all n line) ≡ true) ⊎ (bytes_eq line (codes "; cost range") ≡ true) → IsEndLine n line
any_is n line (inl e) = counted_is n line (one_of (says_enough n line) (says_all n line) e)
any_is n line (inr e) = inr (inr (inr (inr ((bytes_eq-Decides line (codes "; cost range")).0 e))))

pub end_is : (n : ℕ) (line : List ℕ) → is_end n line ≡ true → IsEndLine n line
end_is n line e = any_is n line (one_of (says_enough n line || says_all n line) (bytes_eq line (codes "; cost range")) e)

by_first : (t u : Bool) → t ≡ true → (t || u) ≡ true
by_first t u e = rw e refl

enough_again : (n : ℕ) (line : List ℕ) → says_enough n line ≡ true → is_end n line ≡ true
enough_again n line e = by_first (says_enough n line || says_all n line) _ (by_first (says_enough n line) _ e)

all_again : (n : ℕ) (line : List ℕ) → says_all n line ≡ true → is_end n line ≡ true
all_again n line e = by_first (says_enough n line || says_all n line) _ (by_second (says_enough n line) _ e)

pub is_end_again : (n : ℕ) (line : List ℕ) → IsEndLine n line → is_end n line ≡ true
is_end_again n line (inl h) = enough_again n line (by_first (is_numbered (codes "; reached ") n line) _ (numbered_again (codes "; reached ") n line h))
is_end_again n line (inr (inl h)) = all_again n line (by_first (is_numbered (codes "; exhausted ") n line) _ (numbered_again (codes "; exhausted ") n line h))
is_end_again n line (inr (inr (inl h))) = enough_again n line
    (by_second (is_numbered (codes "; reached ") n line) _ (numbered_again (codes "; more ") n line h))
is_end_again n line (inr (inr (inr (inl h)))) = all_again n line
    (by_second (is_numbered (codes "; exhausted ") n line) _ (numbered_again (codes "; bounded ") n line h))
is_end_again n line (inr (inr (inr (inr h)))) = by_second (says_enough n line || says_all n line) _ ((bytes_eq-Decides line (codes "; cost range")).1 h)

-- the third bytes of two lines
third_apart : (a b : ℕ) → a ≡ b → a ≢ b → ⊥
third_apart a b e ne = ne e

-- no end line begins a block
no_block_there : (n i : ℕ) (line : List ℕ) → IsEndLine n line → IsPlanRowSpelled (plan i) line → ⊥
no_block_there n i line (inl h) k = third_apart 114 112 (ap (λ (z : List ℕ). get_or z 2 0) (sym h.2 ∙ k.2)) (omega arith)
no_block_there n i line (inr (inl h)) k = third_apart 101 112 (ap (λ (z : List ℕ). get_or z 2 0) (sym h.2 ∙ k.2)) (omega arith)
no_block_there n i line (inr (inr (inl h))) k = third_apart 109 112 (ap (λ (z : List ℕ). get_or z 2 0) (sym h.2 ∙ k.2)) (omega arith)
no_block_there n i line (inr (inr (inr (inl h)))) k = third_apart 98 112 (ap (λ (z : List ℕ). get_or z 2 0) (sym h.2 ∙ k.2)) (omega arith)
no_block_there n i line (inr (inr (inr (inr h)))) k = third_apart 99 112 (ap (λ (z : List ℕ). get_or z 2 0) (sym h ∙ k.2)) (omega arith)

-- The blocks of a text, one after the other.

-- the lines are those of a plan text after its first n blocks
record From (n : ℕ) (lines : Lines) (blocks : List ReadBlock) : Type 0 where
  main : Lines
  ending : Lines
  whole : lines ≡ main ++ ending
  spelled : Spells IsPlanRowSpelled (rows_from (n + 1) blocks) main
  ends : IsEnding (n + length blocks) ending
  each : All IsBlock blocks

whole_from : (lines : Lines) (blocks : List ReadBlock) → IsPlansOf lines blocks → From 0 lines blocks
whole_from lines blocks h = record {
  main = h.main;
  ending = h.ending;
  whole = h.whole;
  spelled = h.spelled;
  ends =
      subst (λ (k : ℕ). IsEnding k h.ending) (sym (zero-add (length blocks))) h.ends;
  each = h.each;
}

-- nothing but an ending
nothing_more : (n : ℕ) (lines : Lines) → From n lines [] → IsEnding n lines
nothing_more n lines h = (let same : lines ≡ h.ending = h.whole
    ∙ ap (λ (z : Lines). z ++ h.ending) (none h.main h.spelled) in subst (IsEnding n) (sym same)
    (let k : n + 0 ≡ n = omega arith in subst (λ (z : ℕ). IsEnding z h.ending) k h.ends))
  where
    none : (main : Lines) → Spells IsPlanRowSpelled [] main → main ≡ []
    none [] s = refl
    none (l ∷ main) s = absurd s

number_small : (i : ℕ) (b : ReadBlock) (rows : List PlanRow) (f : Lines) → Spells IsPlanRowSpelled (block_rows i b ++ rows) f → i < 2 ^ 64
number_small i b rows [] h = absurd h
number_small i b rows (l ∷ f) h = h.0.1.small

-- what a block is read from, and leaves
again : (i : ℕ) (b : ReadBlock) (f rest : Lines) → i < 2 ^ 64 → IsBlock b → Spells IsPlanRowSpelled (block_rows i b) f
    → read_block_at i (f ++ rest) ≡ Ok (b, rest)
again i b f rest small is h = (exact_block i small).again b f rest is h

-- the first block of a text, read from its front
record First (n : ℕ) (lines : Lines) (b : ReadBlock) (blocks : List ReadBlock) : Type 0 where
  left : Lines
  read : read_block_at (n + 1) lines ≡ Ok (b, left)
  others : From (n + 1) left blocks

first_of : (n : ℕ) (lines : Lines) (b : ReadBlock) (blocks : List ReadBlock) → From n lines (b ∷ blocks) → First n lines b blocks
first_of n lines b blocks h =
    let small = number_small (n + 1) b (rows_from (n + 1 + 1) blocks) h.main h.spelled in
    let parts = grammar.spells_split shape_of IsPlanRowSpelled (block_rows (n + 1) b) (rows_from (n + 1 + 1) blocks) h.main h.spelled in
    let there : lines ≡ parts.one ++ (parts.two ++ h.ending) = h.whole ∙ ap (λ (z : Lines). z ++ h.ending) parts.whole
    ∙ append_assoc parts.one parts.two h.ending in
    let count : n + length (b ∷ blocks) ≡ (n + 1) + length blocks = omega arith in
    record {
      left = parts.two ++ h.ending;
      read = ap (read_block_at (n + 1)) there ∙ again (n + 1) b parts.one (parts.two ++ h.ending) small (All-head IsBlock b blocks h.each) parts.first;
      others = record {
        main = parts.two;
        ending = h.ending;
        whole = refl;
        spelled = parts.second;
        ends =
            subst (λ (k : ℕ). IsEnding k h.ending) count h.ends;
        each = All-tail IsBlock b blocks h.each;
      };
    }

-- lines that begin with a block are no ending
no_ending : (n i : ℕ) (b : ReadBlock) (f rest : Lines) → Spells IsPlanRowSpelled (block_rows i b) f → IsEnding n (f ++ rest) → ⊥
no_ending n i b [] rest h k = absurd h
no_ending n i b (l ∷ []) rest h k = absurd h.1
no_ending n i b (l ∷ m ∷ f) rest h k = k

-- blocks that are known to come first
record Known (n : ℕ) (list : List ReadBlock) (rest : Lines) (blocks : List ReadBlock) : Type 0 where
  others : List ReadBlock
  same : blocks ≡ list ++ others
  left : From n rest others

-- a block that comes first is the first of the blocks
first_known : (n : ℕ) (b : ReadBlock) (f rest : Lines) (blocks : List ReadBlock) → IsBlock b
    → Spells IsPlanRowSpelled (block_rows (n + 1) b) f → From n (f ++ rest) blocks → Known (n + 1) (b ∷ []) rest blocks
first_known n b f rest [] is h text = absurd (no_ending n (n + 1) b f rest h (nothing_more n (f ++ rest) text))
first_known n b f rest (c ∷ blocks) is h text =
    let first = first_of n (f ++ rest) c blocks text in
    let small = number_small (n + 1) b [] f (subst (λ (rows : List PlanRow). Spells IsPlanRowSpelled rows f) (sym (append-nil (block_rows (n + 1) b))) h) in
    let same = grammar.ok_both shape_of IsPlanRowSpelled (read_block_at (n + 1) (f ++ rest)) (c, first.left)
    (b, rest) first.read (again (n + 1) b f rest small is h) in
    record { others = blocks; same = ap (λ (z : ReadBlock). z ∷ blocks) same.0; left = subst (λ (z : Lines). From (n + 1) z blocks) same.1 first.others }

behind : (b : ReadBlock) (blocks rest list others : List ReadBlock) → blocks ≡ b ∷ rest → rest ≡ list ++ others → blocks ≡ b ∷ list ++ others
behind b blocks rest list others e f = cc

all_known : (n m : ℕ) (list : List ReadBlock) (front rest : Lines) (blocks : List ReadBlock) → m ≡ n + length list
    → All IsBlock list → Spells IsPlanRowSpelled (rows_from (n + 1) list) front → From n (front ++ rest) blocks
    → Known m list rest blocks
all_known n m [] [] rest blocks count each h text = record {
  others = blocks;
  same = refl;
  left =
      (let k : n ≡ m = omega arith in subst (λ (z : ℕ). From z rest blocks) k text);
}
all_known n m [] (l ∷ front) rest blocks count each h text = absurd h
all_known n m (b ∷ list) front rest blocks count each h text =
    let parts = grammar.spells_split shape_of IsPlanRowSpelled (block_rows (n + 1) b) (rows_from (n + 1 + 1) list) front h in
    let there : front ++ rest ≡ parts.one ++ (parts.two ++ rest) = ap (λ (z : Lines). z ++ rest) parts.whole ∙ append_assoc parts.one parts.two rest in
    let one = first_known n b parts.one (parts.two ++ rest) blocks (All-head IsBlock b list each) parts.first
    (subst (λ (z : Lines). From n z blocks) there text) in
    let more = all_known (n + 1) m list parts.two rest one.others (omega arith) (All-tail IsBlock b list each) parts.second one.left in
    record { others = more.others; same = behind b blocks one.others list more.others one.same more.same; left = more.left }

-- What is read so far.

pub record Begun (lines : Lines) (list : List ReadBlock) (rest : Lines) : Type 0 where
  pub front : Lines
  pub whole : lines ≡ front ++ rest
  pub spelled : Spells IsPlanRowSpelled (rows_from 1 list) front
  pub each : All IsBlock list

-- in a text that begins so, what is left goes on after these blocks
known : (list : List ReadBlock) (front rest : Lines) (blocks : List ReadBlock) → All IsBlock list
    → Spells IsPlanRowSpelled (rows_from 1 list) front → IsPlansOf (front ++ rest) blocks
    → Known (length list) list rest blocks
known list front rest blocks each h text = all_known 0 (length list) list front rest blocks
    (sym (zero-add (length list))) each h (whole_from (front ++ rest) blocks text)

rows_push : (i m : ℕ) (list : List ReadBlock) (b : ReadBlock) → m ≡ i + length list → rows_from i (list ++ b ∷ []) ≡ rows_from i list ++ block_rows m b
rows_push i m [] b count = (let k : i ≡ m = omega arith in append-nil (block_rows i b) ∙ ap (λ (z : ℕ). block_rows z b) k)
rows_push i m (c ∷ list) b count = ap (λ (rows : List PlanRow). block_rows i c ++ rows)
    (rows_push (i + 1) m list b (omega arith)) ∙ sym (append_assoc (block_rows i c) (rows_from (i + 1) list)
    (block_rows m b))

-- one block more is spelled
spelled_more : (list : List ReadBlock) (b : ReadBlock) (front more : Lines)
    → Spells IsPlanRowSpelled (rows_from 1 list) front → Spells IsPlanRowSpelled (block_rows (length list + 1) b) more
    → Spells IsPlanRowSpelled (rows_from 1 (list ++ b ∷ [])) (front ++ more)
spelled_more list b front more h k =
    subst (λ (rows : List PlanRow). Spells IsPlanRowSpelled rows (front ++ more)) (sym (rows_push 1 (length list + 1) list b (omega arith)))
    (grammar.spells_append shape_of IsPlanRowSpelled (rows_from 1 list) (block_rows (length list + 1) b) front more h k)

pub begun_more : (lines : Lines) (list : List ReadBlock) (rest : Lines) (b : ReadBlock) (after : Lines)
    → length list + 1 < 2 ^ 64 → read_block_at (length list + 1) rest ≡ Ok (b, after) → Begun lines list rest
    → Begun lines (list ++ b ∷ []) after
begun_more lines list rest b after small e so_far =
    let t = (exact_block (length list + 1) small).takes rest b after e in
    record {
      front = so_far.front ++ t.front;
      whole = so_far.whole ∙ ap (λ (z : Lines). so_far.front ++ z) t.whole ∙ sym (append_assoc so_far.front t.front after);
      spelled = spelled_more list b so_far.front t.front so_far.spelled t.spelled;
      each = All-push IsBlock list b so_far.each t.fits;
    }

-- a block takes a line at least
pub block_shorter : (i : ℕ) (rest : Lines) (b : ReadBlock) (after : Lines) → i < 2 ^ 64 → read_block_at i rest ≡ Ok (b, after) → length after < length rest
block_shorter i rest b after small e =
    let t = (exact_block i small).takes rest b after e in
    let some : 1 ≤ length t.front = spelled_some t.front t.spelled in
    omega (arith, ap (λ (z : Lines). length z) t.whole, length-append t.front after)
  where
    spelled_some : (front : Lines) → Spells IsPlanRowSpelled (block_rows i b) front → 1 ≤ length front
    spelled_some [] h = absurd h
    spelled_some (l ∷ front) h = omega arith

-- the front with its end line is a whole text
with_end : (list : List ReadBlock) (front : Lines) (line : List ℕ) → All IsBlock list
    → Spells IsPlanRowSpelled (rows_from 1 list) front → IsEndLine (length list) line → IsPlansOf (front ++ line ∷ []) list
with_end list front line each h is = record { main = front; ending = line ∷ []; whole = refl; spelled = h; ends = is; each = each }

pub end_read : (lines : Lines) (list : List ReadBlock) (rest : Lines) → begins_with_end (length list) rest ≡ true
    → length rest ≡ 1 → Begun lines list rest → IsPlansOf lines list
end_read lines list [] t one so_far = absurd (omega arith)
end_read lines list (line ∷ []) t one so_far = subst (λ (z : Lines). IsPlansOf z list) (sym so_far.whole)
    (with_end list so_far.front line so_far.each so_far.spelled (end_is (length list) line t))
end_read lines list (line ∷ next ∷ rest) t one so_far = absurd (omega arith)

-- Where the lines stop being those of a plan text.

record Stops (lines : Lines) (left : ℕ) : Type 0 where
  front : Lines
  rest : Lines
  whole : lines ≡ front ++ rest
  place : left ≡ length rest
  begins : IsFront IsPlansOf front
  ends : rest ≡ [] → (blocks : List ReadBlock) → IsPlansOf front blocks → ⊥
  dead : (l : List ℕ) (r : Lines) → rest ≡ l ∷ r → IsFront IsPlansOf (front ++ l ∷ []) → ⊥

abbrev Stuck : Lines → ℕ → Type 0
Stuck lines n = ((n ≤ length lines) × (IsFront IsPlansOf (take n lines) → ⊥))
    ⊎ ((n ≡ length lines + 1) × ((blocks : List ReadBlock) → IsPlansOf lines blocks → ⊥))

stuck_there : (lines front rest : Lines) (n : ℕ) → lines ≡ front ++ rest → n ≡ length front + 1
    → (rest ≡ [] → (blocks : List ReadBlock) → IsPlansOf front blocks → ⊥)
    → ((l : List ℕ) (r : Lines) → rest ≡ l ∷ r → IsFront IsPlansOf (front ++ l ∷ []) → ⊥) → Stuck lines n
stuck_there lines front [] n whole place ends dead =
    let same : lines ≡ front = whole ∙ append-nil front in
    inr (place ∙ ap (λ (z : Lines). length z + 1) (sym same), λ blocks h. ends refl blocks (subst (λ (z : Lines). IsPlansOf z blocks) same h))
stuck_there lines front (l ∷ r) n whole place ends dead =
    let cut : take n lines ≡ front ++ l ∷ [] = rw (place, whole) (take-append-add front (l ∷ r) 1) in
    inl (omega (arith, ap length whole, length-append front (l ∷ r)), λ m. dead l r refl (subst (IsFront IsPlansOf) cut m))

offends : (lines : Lines) (left : ℕ) → Stops lines left → (left ≤ length lines) × Offends IsPlansOf lines (length lines - left + 1)
offends lines left st =
    let sum : length lines ≡ length st.front + length st.rest = ap (λ (z : Lines). length z) st.whole ∙ length-append st.front st.rest in
    let at : left ≡ length st.rest = st.place in
    let n : length lines - left ≡ length st.front = omega arith in
    let k : (length lines - left + 1) - 1 ≡ length st.front = omega arith in
    let cut : take ((length lines - left + 1) - 1) lines ≡ st.front = rw (k, st.whole) (take-append_seam st.front st.rest) in (
      omega arith,
      record {
        counted = omega arith;
        front = subst (IsFront IsPlansOf) (sym cut) st.begins;
        stuck = stuck_there lines st.front st.rest (length lines - left + 1) st.whole (ap (λ z. z + 1) n) st.ends st.dead;
      },
    )

-- after n blocks neither an end line nor a block is read from these lines
no_text : (n : ℕ) (lines : Lines) (o : Offence (Unit {0})) → ((line : List ℕ) → lines ≡ line ∷ [] → IsEndLine n line
    → ⊥) → 1 ≤ length lines → read_block_at (n + 1) lines ≡ Err o → (blocks : List ReadBlock) → From n lines blocks → ⊥
no_text n lines o no_end some e [] text = at lines some (nothing_more n lines text) (λ line same. no_end line same)
  where
    at : (lines : Lines) → 1 ≤ length lines → IsEnding n lines → ((line : List ℕ) → lines ≡ line ∷ [] → IsEndLine n line → ⊥) → ⊥
    at [] some h none = absurd (omega arith)
    at (line ∷ []) some h none = none line refl h
    at (line ∷ next ∷ lines) some h none = h
no_text n lines o no_end some e (b ∷ blocks) text = (let first = first_of n lines b blocks text in
    let r : read_block_at (n + 1) lines ≡ Ok (b, first.left) = first.read in cc)

regrouped : (front more : Lines) (l : List ℕ) (tail : Lines) → ((front ++ more) ++ l ∷ []) ++ tail ≡ front ++ (more ++ l ∷ tail)
regrouped front more l tail = append_assoc (front ++ more) (l ∷ []) tail ∙ append_assoc front more (l ∷ tail)

-- the line that comes first is no end line, and stays so however the lines go on
first_stays : (n : ℕ) (rest front tail : Lines) (line : List ℕ) → begins_with_end n rest ≡ false
    → (l : List ℕ) (r : Lines) → rest ≡ front ++ l ∷ r → front ++ l ∷ tail ≡ line ∷ [] → IsEndLine n line → ⊥
first_stays n rest [] tail line t l r whole same is =
    let heads : l ≡ line = cc in
    let good : is_end n l ≡ true = ap (is_end n) heads ∙ is_end_again n line is in
    let bad : is_end n l ≡ false = sym (ap (begins_with_end n) whole) ∙ t in
    cc
first_stays n rest (f ∷ front) tail line t l r whole same is =
    let heads : f ≡ line = cc in
    let good : is_end n f ≡ true = ap (is_end n) heads ∙ is_end_again n line is in
    let bad : is_end n f ≡ false = sym (ap (begins_with_end n) whole) ∙ t in
    cc

pub stops_in_block : (lines : Lines) (list : List ReadBlock) (rest : Lines) (o : Offence (Unit {0}))
    → length list + 1 < 2 ^ 64 → 1 ≤ length rest → begins_with_end (length list) rest ≡ false
    → read_block_at (length list + 1) rest ≡ Err o → Begun lines list rest
    → (o.left ≤ length lines) × Offends IsPlansOf lines (length lines - o.left + 1)
stops_in_block lines list rest o small some no_end e so_far =
    let n = length list in
    let st = (exact_block (n + 1) small).stuck rest o e in
    offends lines o.left (record {
      front = so_far.front ++ st.front;
      rest = st.rest;
      whole = so_far.whole ∙ ap (λ (z : Lines). so_far.front ++ z) st.whole ∙ sym (append_assoc so_far.front st.front st.rest);
      place = st.place;
      begins = (
        st.more,
        list ++ st.value ∷ [],
        record {
          main = so_far.front ++ (st.front ++ st.more);
          ending = [];
          whole = append_assoc so_far.front st.front st.more ∙ sym (append-nil (so_far.front ++ (st.front ++ st.more)));
          spelled = spelled_more list st.value so_far.front (st.front ++ st.more) so_far.spelled st.spelled;
          ends = tt;
          each = All-push IsBlock list st.value so_far.each st.fits;
        },
      );
      ends = λ none blocks text. (
          let all : rest ≡ st.front = st.whole ∙ ap (λ (z : Lines). st.front ++ z) none ∙ append-nil st.front in
          let k = known list so_far.front st.front blocks so_far.each so_far.spelled text in
          no_text n st.front (grammar.offence shape_of IsPlanRowSpelled o.wanted 0)
          (λ line same is. only rest line no_end (all ∙ same) is) (subst (λ (z : Lines). 1 ≤ length z) all some)
          st.ends k.others k.left);
      dead = λ l r same m. (
          let more = m.0 in
          let k = known list so_far.front (st.front ++ l ∷ more) m.1 so_far.each so_far.spelled
          (subst (λ (z : Lines). IsPlansOf z m.1) (regrouped so_far.front st.front l more) m.2) in
          no_text n (st.front ++ l ∷ more) (grammar.offence shape_of IsPlanRowSpelled o.wanted (suc (length more)))
          (λ line alone is. first_stays n rest st.front more line no_end l r (st.whole ∙ ap (λ (z : Lines). st.front ++ z) same) alone is)
          (omega (arith, length-append st.front (l ∷ more))) (st.dead l r more same) k.others k.left);
    })
  where
    only : (rest : Lines) (line : List ℕ) → begins_with_end (length list) rest ≡ false → rest ≡ line ∷ [] → IsEndLine (length list) line → ⊥
    only rest line t same is = (let good : is_end (length list) line ≡ true = is_end_again (length list) line is in
        let bad : is_end (length list) line ≡ false = sym (ap (begins_with_end (length list)) same) ∙ t in cc)

-- nothing goes on after the end line
no_more : (n : ℕ) (line : List ℕ) (next : List ℕ) (tail : Lines) → IsEndLine n line → (blocks : List ReadBlock) → From n (line ∷ next ∷ tail) blocks → ⊥
no_more n line next tail is [] text = nothing_more n (line ∷ next ∷ tail) text
no_more n line next tail is (b ∷ blocks) text = at text.main text.whole text.spelled
  where
    at : (main : Lines) → line ∷ next ∷ tail ≡ main ++ text.ending → Spells IsPlanRowSpelled (rows_from (n + 1) (b ∷ blocks)) main → ⊥
    at [] whole h = absurd h
    at (l ∷ main) whole h = (let same : line ≡ l = cc in no_block_there n (n + 1) l (subst (λ (z : List ℕ). IsEndLine n z) same is) h.0)

pub stops_after_end : (lines : Lines) (list : List ReadBlock) (rest : Lines) (left : ℕ)
    → begins_with_end (length list) rest ≡ true → 1 ≤ left → length rest ≡ left + 1 → Begun lines list rest
    → (left ≤ length lines) × Offends IsPlansOf lines (length lines - left + 1)
stops_after_end lines list [] left t some count so_far = absurd (omega arith)
stops_after_end lines list (line ∷ rest) left t some count so_far =
    let n = length list in
    let is = end_is n line t in
    offends lines left (record {
      front = so_far.front ++ line ∷ [];
      rest = rest;
      whole = so_far.whole ∙ sym (append_assoc so_far.front (line ∷ []) rest);
      place = omega arith;
      begins = (
        [],
        list,
        subst (λ (z : Lines). IsPlansOf z list) (sym (append-nil (so_far.front ++ line ∷ [])))
            (with_end list so_far.front line so_far.each so_far.spelled is),
      );
      ends = λ none blocks text. absurd (omega (arith, ap (λ (z : Lines). length z) none));
      dead = λ l r same m. (
          let more = m.0 in
          let k = known list so_far.front (line ∷ l ∷ more) m.1 so_far.each so_far.spelled
          (subst (λ (z : Lines). IsPlansOf z m.1) (regrouped so_far.front (line ∷ []) l more) m.2) in
          no_more n line l more is k.others k.left);
    })

-- One text, one list of blocks.

no_blocks : (n : ℕ) (lines : Lines) (b : ReadBlock) (blocks : List ReadBlock) → From n lines [] → From n lines (b ∷ blocks) → ⊥
no_blocks n lines b blocks none some =
    let parts = grammar.spells_split shape_of IsPlanRowSpelled (block_rows (n + 1) b) (rows_from (n + 1 + 1) blocks) some.main some.spelled in
    let there : lines ≡ parts.one ++ (parts.two ++ some.ending) = some.whole
    ∙ ap (λ (z : Lines). z ++ some.ending) parts.whole ∙ append_assoc parts.one parts.two some.ending in
    no_ending n (n + 1) b parts.one (parts.two ++ some.ending) parts.first (subst (IsEnding n) there (nothing_more n lines none))

one_list_from : (n : ℕ) (lines : Lines) (one other : List ReadBlock) → From n lines one → From n lines other → one ≡ other
one_list_from n lines [] [] h k = refl
one_list_from n lines [] (c ∷ other) h k = absurd (no_blocks n lines c other h k)
one_list_from n lines (b ∷ one) [] h k = absurd (no_blocks n lines b one k h)
one_list_from n lines (b ∷ one) (c ∷ other) h k =
    let x = first_of n lines b one h in
    let y = first_of n lines c other k in
    let same = grammar.ok_both shape_of IsPlanRowSpelled (read_block_at (n + 1) lines) (b, x.left) (c, y.left) x.read y.read in
    let others : one ≡ other = one_list_from (n + 1) x.left one other x.others (subst (λ (z : Lines). From (n + 1) z other) (sym same.1) y.others) in
    ap (λ (z : ReadBlock). z ∷ one) same.0 ∙ ap (λ (z : List ReadBlock). c ∷ z) others

pub one_list : (lines : Lines) (one other : List ReadBlock) → IsPlansOf lines one → IsPlansOf lines other → one ≡ other
one_list lines one other h k = one_list_from 0 lines one other (whole_from lines one h) (whole_from lines other k)

-- What the loop over the blocks gives.

pub ended_plans : (lines : Lines) (list : List ReadBlock) (rest : Lines)
    (r : Result (List ReadBlock) (Stopped (Unit {0}))) → MatchResult r
    (λ blocks. (blocks ≡ list) × (length rest ≡ 1)) (IsAfterEnd rest) → begins_with_end (length list) rest ≡ true
    → Begun lines list rest → IfOk r (IsPlansOf lines)
ended_plans lines list rest (Ok blocks) h t so_far = subst (IsPlansOf lines) (sym h.0) (end_read lines list rest t h.1 so_far)
ended_plans lines list rest (Err e) h t so_far = tt

pub ended_refuses : (lines : Lines) (list : List ReadBlock) (rest : Lines)
    (r : Result (List ReadBlock) (Stopped (Unit {0}))) → MatchResult r
    (λ blocks. (blocks ≡ list) × (length rest ≡ 1)) (IsAfterEnd rest) → begins_with_end (length list) rest ≡ true
    → Begun lines list rest → IfErr r (Refuses lines)
ended_refuses lines list rest (Ok blocks) h t so_far = tt
ended_refuses lines list rest (Err stopped.Memory) h t so_far = tt
ended_refuses lines list rest (Err (stopped.Offence o)) h t so_far = stops_after_end lines list rest o.left t h.0 h.1 so_far

pub block_refuses : (lines : Lines) (list : List ReadBlock) (rest : Lines) (e : Stopped (Unit {0}))
    → length list + 1 < 2 ^ 64 → 1 ≤ length rest → begins_with_end (length list) rest ≡ false
    → FailsReading e (read_block_at (length list + 1) rest) → Begun lines list rest → Refuses lines e
block_refuses lines list rest stopped.Memory small some t fails so_far = tt
block_refuses lines list rest (stopped.Offence o) small some t fails so_far = stops_in_block lines list rest o small some t fails so_far
