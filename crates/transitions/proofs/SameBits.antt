-- Codes turn on the levels of the state alone.
use Rattle.std.proofs.Common.{◌≡◌, ℕ, ◌+◌, ◌<◌, Bool, true, false, cond, List, refl, sym, ◌∙◌, arith}
use Rattle.bdd_table.specs.Diagram.{Bits}
use Rattle.var_order.specs.Layout.{Layout, IsLayout, block_at, bits, level_at}
use Rattle.var_order.specs.Codes.{IsCode}
use Rattle.var_order.proofs.Spelling.{number_same}
use Rattle.var_order.proofs.Coding.{code_digit}

-- bits that agree at the places of a state are those of the same state
pub same_code : (o : Layout) (s : List ℕ) (b c : Bits) → IsLayout o
    → ((p : ℕ) → p < bits o → c (level_at 0 p) ≡ b (level_at 0 p)) → IsCode o 0 s b → IsCode o 0 s c
same_code o s b c l agree code = record {
  each = code.each;
  values = λ slot lt. number_same c b 0 0 (block_at o slot).width (block_at o slot).first
      (λ k below. agree ((block_at o slot).first + k) (l.owned slot ((block_at o slot).first + k)
      (record { from = omega arith; before = omega (arith, below) })).0)
      ∙ code.values slot lt;
}

abbrev digit : Bool → ℕ
digit x = cond x 1 0

same_digit : (x y : Bool) → digit x ≡ digit y → x ≡ y
same_digit true true e = refl
same_digit false false e = refl
same_digit true false e = absurd (omega (arith, e))
same_digit false true e = absurd (omega (arith, e))

-- and bits of one state agree there
pub same_bits : (o : Layout) (s : List ℕ) (b c : Bits) (p : ℕ) → IsLayout o → IsCode o 0 s b → IsCode o 0 s c → p < bits o → b (level_at 0 p) ≡ c (level_at 0 p)
same_bits o s b c p l cb cc lt = same_digit (b (level_at 0 p)) (c (level_at 0 p)) (code_digit o 0 s b p l cb lt ∙ sym (code_digit o 0 s c p l cc lt))
