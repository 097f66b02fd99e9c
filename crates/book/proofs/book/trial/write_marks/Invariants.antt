use Rattle.std.proofs.Common.{◌≡◌, get_or, take}
use Rattle.matching.specs.Count.{bit}
use Rattle.book.specs.Reach.{reaches}
use Rattle.book.specs.Result.{row}
use Rattle.book.proofs.book.trial.write_marks.Given as goal

abbrev pub invariant-loop-t : goal.invariant-loop-t
invariant-loop-t l = take l.t l.row ≡ row (λ t. bit (reaches l.cutoff (get_or l.reaches t 0))) l.t
