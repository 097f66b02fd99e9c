use Rattle.matching.proofs.Lines.{posted_is_calm_lem}
use Rattle.matching.proofs.theorems.posted_is_calm.Goals as goal

pub returns : goal.returns
returns c = posted_is_calm_lem
