-- Names without LF.
use Rattle.std.proofs.Common.{◌≡◌, ◌≢◌, ℕ, List, [], ◌∷◌, refl}
use Rattle.std.specs.Prelude.{Bool, true, false, cond, All, ◌==◌}
use Rattle.std.proofs.lemmas.Bool.{false≢true, eqb-false}
use Rattle.std.proofs.lemmas.List.Elements.{All-nil, All-cons}
use Rattle.symk_task.specs.Fits.{IsName}

abbrev pub NotEnd : ℕ → Type 0
NotEnd b = b ≢ 10

-- no byte of the list is LF
unfoldable pub goes_on : List ℕ → Bool
goes_on [] = true
goes_on (b ∷ bs) = cond (b == 10) false (goes_on bs)

line_more : (t : Bool) (b : ℕ) (bs : List ℕ) → (b == 10) ≡ t → cond t false (goes_on bs) ≡ true → (goes_on bs ≡ true → All NotEnd bs) → All NotEnd (b ∷ bs)
line_more true b bs e h rest = absurd (false≢true h)
line_more false b bs e h rest = All-cons NotEnd b bs (eqb-false b 10 e) (rest h)

pub by_test : (name : List ℕ) → goes_on name ≡ true → All NotEnd name
unfolding goes_on
by_test [] h = All-nil NotEnd
by_test (b ∷ bs) h = line_more (b == 10) b bs refl h (by_test bs)

pub literal : (name : List ℕ) → goes_on name ≡ true → IsName name
literal name h = record { line = (λ (k, lt, e). by_test name h k 10 lt e) }
