use Rattle.matching.proofs.Lines.{best_and_fair_without_bands_lem}
use Rattle.matching.proofs.theorems.best_and_fair_without_bands.Goals as goal

pub returns : goal.returns
returns c = best_and_fair_without_bands_lem
