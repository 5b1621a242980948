use Rattle.engine_tests.proofs.listing.ends_so.Given as goal

-- the call counts its own turns
abbrev pub ghosts-ask : goal.ghosts-ask
ghosts-ask g a = record { name = a.blank.name; parts = a.blank.parts }
