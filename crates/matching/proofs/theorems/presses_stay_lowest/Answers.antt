use Rattle.matching.proofs.Lowest.{presses_stay_lowest_lem}
use Rattle.matching.proofs.theorems.presses_stay_lowest.Goals as goal

pub returns : goal.returns
returns c = presses_stay_lowest_lem
