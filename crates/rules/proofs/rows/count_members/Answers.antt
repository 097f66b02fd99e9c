use Rattle.std.proofs.Common.{rules}
use Rattle.rules.specs.Limits.{members}
use Rattle.rules.proofs.rows.count_members.Goals as goal

pub returns : goal.returns
unfolding members
returns c = c.tally.ensures (λ _. 1) (λ i r l p. search rules)
