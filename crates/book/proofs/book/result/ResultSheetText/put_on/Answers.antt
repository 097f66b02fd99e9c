use Rattle.std.proofs.Common.{arith}
use Rattle.text.proofs.PageLaws.{then}
use Rattle.book.proofs.book.result.ResultSheetText.put_on.Goals as goal

pub returns : goal.returns
returns c = then (omega arith) c.put_line.ensures (then (omega arith) c.put_line-2.ensures c.put_line-3.ensures)
