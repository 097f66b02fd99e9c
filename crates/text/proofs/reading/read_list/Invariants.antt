use Rattle.std.proofs.Common.{◌≡◌, length}
use Rattle.bounded.specs.Listed.{listed}
use Rattle.text.specs.Commas.{numbers, pieces, each, prepend}
use Rattle.text.proofs.reading.read_list.Given as goal

abbrev pub invariant-loop-n : goal.invariant-loop-n
invariant-loop-n g l = numbers l.value ≡ prepend (listed l.out) (each (pieces l.rest))

abbrev pub decreases-loop-n : goal.decreases-loop-n
decreases-loop-n g l = length l.rest
