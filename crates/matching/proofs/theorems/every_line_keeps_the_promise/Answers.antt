use Rattle.matching.proofs.Lines.{every_line_keeps_the_promise_lem}
use Rattle.matching.proofs.theorems.every_line_keeps_the_promise.Goals as goal

pub returns : goal.returns
returns c = every_line_keeps_the_promise_lem
