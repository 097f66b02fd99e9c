use Rattle.std.proofs.Common.{arith}
use Rattle.text.proofs.PageLaws.{then}
use Rattle.text.proofs.writing.Page.put_line.Goals as goal

pub returns : goal.returns
returns c = then (omega arith) c.put.ensures (then (omega arith) c.put_list.ensures c.put-2.ensures)
