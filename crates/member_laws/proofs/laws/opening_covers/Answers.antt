use Rattle.member_laws.proofs.Covering as covering
use Rattle.member_laws.proofs.laws.opening_covers.Goals as goal

pub returns : goal.returns
returns c = λ y e opened old kids new covers opening taken. covering.opening_covers y e opened old kids new covers opening taken
