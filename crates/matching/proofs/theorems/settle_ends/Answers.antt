use Rattle.matching.proofs.Lines.{settle_ends_lem}
use Rattle.matching.proofs.theorems.settle_ends.Goals as goal

pub returns : goal.returns
returns c = settle_ends_lem
