use Rattle.std.proofs.Common.{take}
use Rattle.space_api.specs.Owned.{Trades}
use Rattle.reconstruct.specs.Entries.{SetIn}
use Rattle.reconstruct.proofs.entries.give_back_entries.Given as goal

abbrev pub invariant-loop-entry : goal.invariant-loop-entry
invariant-loop-entry g l = Trades (g.S.Space.view l.fn.space) (g.S.Space.view l.space) (SetIn (take l.entry-index l.entries)) (λ a. ⊥)
