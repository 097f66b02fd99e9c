use Rattle.std.proofs.Common.{ap, arith}
use Rattle.text.proofs.PageLaws.{then, gains_same}
use Rattle.lines.specs.declared.keys.Key.TheVariants.{List as ListKey}
use Rattle.lines.specs.Written.{line}
use Rattle.sheets.proofs.writes.LaneText.put_on.Goals as goal

pub returns : goal.returns
returns c = then (omega arith) c.put_line.ensures (gains_same (ap (line ListKey) c.as_slice.ensures.value) c.put_line-2.ensures)
