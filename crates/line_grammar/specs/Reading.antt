-- Reading from the first line on, up to the first line that is not as it should be.
use Rattle.std.specs.Prelude.{◌≡◌, ℕ, zero, suc, List, [], ◌∷◌, length, Option, Some, None, Result, Ok, Err, Bool, if◌then◌else◌}
use Rattle.line_grammar.specs.declared.Offence.{Offence}
use Rattle.line_grammar.specs.declared.Stopped.{Stopped}
use Rattle.line_grammar.specs.declared.Stopped.TheVariants as stopped
use Rattle.line_grammar.specs.Rows.{Lines}

-- what is read is a value, and the lines after it
abbrev pub Read : Type 0 → Type 0 → Type 0
Read S A = Result (A × Lines) (Offence S)

abbrev pub Reading : Type 0 → Type 0 → Type 0
Reading S A = Lines → Read S A

infixl 10 ◌>>=◌
abbrev pub ◌>>=◌ : {S A B : Type 0} → Result A (Offence S) → (A → Result B (Offence S)) → Result B (Offence S)
(Ok x) >>= f = f x
(Err e) >>= f = Err e

-- One line, of which the test gives a value.
abbrev pub picked : {S X : Type 0} → S → List ℕ → Lines → Option X → Read S X
picked shape line lines (Some x) = Ok (x, lines)
picked shape line lines None = Err (record { wanted = shape; left = length (line ∷ lines) })

abbrev pub row_at : {S X : Type 0} → S → (List ℕ → Option X) → Reading S X
row_at shape test [] = Err (record { wanted = shape; left = 0 })
row_at shape test (line ∷ lines) = picked shape line lines (test line)

-- Several, one after the other, where each moves a state on.
unfoldable pub many_at : {S X T : Type 0} → (T → Reading S X) → (T → X → T) → ℕ → T → Reading S (List X)
many_at item next zero state lines = Ok ([], lines)
many_at item next (suc n) state lines = do
  first ← item state lines
  others ← many_at item next n (next state first.0) first.1
  Ok (first.0 ∷ others.0, others.1)

-- one, and then another, which may ask for what the first gave
abbrev pub both_at : {S A B : Type 0} → Reading S A → (A → Reading S B) → Reading S (A × B)
both_at one another lines = do
  first ← one lines
  second ← another first.0 first.1
  Ok ((first.0, second.0), second.1)

-- what was read, made into something else
abbrev pub made_at : {S A B : Type 0} → (A → B) → Reading S A → Reading S B
made_at make whole lines = do
  parts ← whole lines
  Ok (make parts.0, parts.1)

-- a line that says nothing new, and then the rest
abbrev pub after_at : {S A : Type 0} → S → (List ℕ → Option (Unit {0})) → Reading S A → Reading S A
after_at shape test whole lines = do
  known ← row_at shape test lines
  whole known.1

-- the rest, and then a line that says nothing new
abbrev pub before_at : {S A : Type 0} → Reading S A → S → (List ℕ → Option (Unit {0})) → Reading S A
before_at whole shape test lines = do
  value ← whole lines
  known ← row_at shape test value.1
  Ok (value.0, known.1)

-- a line that says how many, and then so many
abbrev pub counted_at : {S X T : Type 0} → S → (List ℕ → Option ℕ) → (T → Reading S X) → (T → X → T) → T → Reading S (List X)
counted_at shape test item next state lines = do
  count ← row_at shape test lines
  many_at item next count.0 state count.1

-- Lines that may follow, to the end.
unfoldable pub tail_at : {S : Type 0} → S → (List ℕ → Bool) → Reading S (Unit {0})
tail_at shape may_follow [] = Ok (tt, [])
tail_at shape may_follow (line ∷ lines) = if may_follow line then tail_at shape may_follow lines else Err (record { wanted = shape; left = length (line ∷ lines) })

-- a value, and lines that may follow
abbrev pub whole_at : {S A : Type 0} → Reading S A → S → (List ℕ → Bool) → Reading S A
whole_at main shape may_follow lines = do
  value ← main lines
  tail ← tail_at shape may_follow value.1
  Ok (value.0, tail.1)

-- What a function returned, seen by view, is what reading gives, unless memory ran out.
abbrev pub FailsReading : {S Y : Type 0} → Stopped S → Result Y (Offence S) → Type 0
FailsReading stopped.Memory read = Unit {0}
FailsReading (stopped.Offence o) read = read ≡ Err o

abbrev pub GivesReading : {S X Y : Type 0} → (X → Y) → Result X (Stopped S) → Result Y (Offence S) → Type 0
GivesReading view (Ok x) read = read ≡ Ok (view x)
GivesReading view (Err e) read = FailsReading e read
