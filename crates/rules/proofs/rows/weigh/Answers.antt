use Rattle.std.proofs.Common.{slice_index, rules}
use Rattle.rules.specs.Limits.{cost_of}
use Rattle.rules.proofs.rows.weigh.Goals as goal

pub returns : goal.returns
unfolding cost_of
returns c = c.tally.ensures (slice_index c.args.costs.now) (λ i r l p. search rules)
