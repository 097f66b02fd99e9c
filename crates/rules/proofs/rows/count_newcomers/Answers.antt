use Rattle.std.proofs.Common.{ℕ, slice_index_or, ◌==◌, ◌∙◌, rules}
use Rattle.matching.specs.Count.{bit}
use Rattle.matching.specs.Groups.{told}
use Rattle.rules.specs.Limits.{newcomers}
use Rattle.rules.proofs.Marks.{counted_test}
use Rattle.rules.proofs.rows.count_newcomers.Goals as goal

pub returns : goal.returns
unfolding newcomers
returns c =
    let newcomer = λ (t : ℕ). slice_index_or c.args.homes.now t 1 == 0 in
    c.tally.ensures (λ t. bit (newcomer t)) (λ i r l p. search rules) ∙ counted_test newcomer (told c.args.row.now) 200
