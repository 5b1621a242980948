-- The stream of numbers of a seed.
use Rattle.std.specs.Prelude.{ℕ, ◌+◌, ◌*◌, ◌/◌, ◌%◌, ◌^◌}
use Rattle.std.specs.Int.RustNames.{bit_xor}

-- the state random_after this one
unfoldable pub random_after : ℕ → ℕ
random_after state = (state + 11400714819323198485) % 2 ^ 64

-- n, with its bits from the k-th on laid over it, times an odd number
abbrev pub stirred : ℕ → ℕ → ℕ → ℕ
stirred n k odd = (bit_xor n (n / 2 ^ k) * odd) % 2 ^ 64

-- the number of a state
unfoldable pub mixed : ℕ → ℕ
mixed state =
    let first = stirred state 30 13787848793156543929 in
    let second = stirred first 27 10723151780598845931 in
    bit_xor second (second / 2 ^ 31)
