use Rattle.market.proofs.Short.{pick_lists_are_short_lem}
use Rattle.market.proofs.theorems.pick_lists_are_short.Goals as goal

pub returns : goal.returns
returns c = pick_lists_are_short_lem
