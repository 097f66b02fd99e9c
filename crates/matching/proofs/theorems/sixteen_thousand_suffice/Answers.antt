use Rattle.matching.proofs.Lines.{sixteen_thousand_suffice_lem}
use Rattle.matching.proofs.theorems.sixteen_thousand_suffice.Goals as goal

pub returns : goal.returns
returns c = sixteen_thousand_suffice_lem
