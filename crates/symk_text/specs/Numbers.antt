-- Numbers in a line.
use Rattle.std.specs.Prelude.{ℕ, ◌+◌, ◌-◌, ◌*◌, ◌^◌, ◌&&◌, nat_lt, nat_le, if◌then◌else◌, List, length, drop, fold, Option, Some, None}
use Rattle.std.specs.List.{take_while}
use Rattle.std.specs.Char.{is_ascii_digit}

-- the longest run of digits at a place
abbrev pub run_at : List ℕ → ℕ → List ℕ
run_at line start = take_while is_ascii_digit (drop start line)

-- what digits spell
unfoldable pub value_of : List ℕ → ℕ
value_of digits = fold (λ value digit. value * 10 + (digit - 48)) 0 digits

-- the number that the longest run of digits at a place spells, if the run has 1 to 20 digits and the number is below 2^64, and the place after it
abbrev pub number_at : List ℕ → ℕ → Option (ℕ × ℕ)
number_at line start =
    let run = run_at line start in
    if nat_le 1 (length run) && nat_le (length run) 20 && nat_lt (value_of run) (2 ^ 64) then Some (value_of run, start + length run) else None
