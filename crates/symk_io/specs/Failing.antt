-- Calls that are listed to fail.
use Rattle.std.specs.Prelude.{◌≡◌, ◌==◌, ℕ, ◌+◌, ◌-◌, ◌^◌, ◌⊎◌, List, min, Bool, IsTrue, IsFalse, Result, OnOk, IsErrOf}
use Rattle.std.specs.List.{list_any}
use Rattle.symk_io.specs.declared.fault.IoFault.{IoFault}
use Rattle.symk_io.specs.declared.fault.IoFault.TheVariants.{Failed}
use Rattle.symk_io.specs.declared.memory.Failing.{Failing}

-- the number of the call after so many: the count stays at the last u64
abbrev pub next_call : ℕ → ℕ
next_call made = min (made + 1) (2 ^ 64 - 1)

-- is the next call listed?
abbrev pub fails_next : Failing → Bool
fails_next f = list_any (λ n. n == next_call f.made) f.calls.items

-- these calls are listed, and so many were made
pub record HasMade (listed : List ℕ) (number : ℕ) (f : Failing) : Type 0 where
  pub calls : f.calls.items ≡ listed
  pub made : f.made ≡ number

abbrev pub NeverOtherwise : Type 0
NeverOtherwise = ⊥

-- One call: it is counted and the list stays, it fails where it is listed, and where it isn't it fails only for another cause.
pub record FailsAsListed (Otherwise : Type 0) {T : Type 0} (old new : Failing) (result : Result T IoFault) : Type 0 where
  pub counted : HasMade old.calls.items (next_call old.made) new
  pub ok : OnOk result (IsFalse (fails_next old))
  pub failed : IsErrOf result Failed → IsTrue (fails_next old) ⊎ Otherwise
