use Rattle.std.proofs.Common.{rules}
use Rattle.bounded.specs.Listed.{listed}
use Rattle.rules.proofs.Places.{row_read}
use Rattle.rules.proofs.lists.calls.list_of.Goals as goal

pub returns : goal.returns
returns c = row_read listed _ (λ p. search rules) (λ x q. search rules) c.args.lists.now c.args.lane _ c.numbered.ensures c.map_or.ensures
