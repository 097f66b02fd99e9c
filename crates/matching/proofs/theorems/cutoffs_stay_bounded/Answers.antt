use Rattle.matching.proofs.Lines.{cutoffs_stay_bounded_lem}
use Rattle.matching.proofs.theorems.cutoffs_stay_bounded.Goals as goal

pub returns : goal.returns
returns c = cutoffs_stay_bounded_lem
