use Rattle.std.proofs.Common.{◌≡◌, replicate, length, vec_items}
use Rattle.book.proofs.book.change.fill_ones.Given as goal

abbrev pub invariant-loop-l : goal.invariant-loop-l
invariant-loop-l l = (vec_items l.cutoffs.items ≡ replicate l._l 1) × (length (vec_items l.cutoffs.items) ≡ l._l)
