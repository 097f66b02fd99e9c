use Rattle.worked.proofs.Rounds.{worked_rounds_lem}
use Rattle.worked.proofs.worked_rounds.Goals as goal

pub returns : goal.returns
returns c = worked_rounds_lem
