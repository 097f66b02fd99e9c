use Rattle.matching.proofs.Lowest.{presses_end_alike_lem}
use Rattle.matching.proofs.theorems.presses_end_alike.Goals as goal

pub returns : goal.returns
returns c = presses_end_alike_lem
