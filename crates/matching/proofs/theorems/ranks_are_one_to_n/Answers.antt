use Rattle.matching.proofs.RankLaws.{ranks_are_one_to_n_lem}
use Rattle.matching.proofs.theorems.ranks_are_one_to_n.Goals as goal

pub returns : goal.returns
returns c = ranks_are_one_to_n_lem
