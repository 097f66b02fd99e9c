use Rattle.std.proofs.Common.{ap, arith}
use Rattle.text.proofs.PageLaws.{then, gains_same}
use Rattle.lines.specs.declared.keys.Key.TheVariants.{Also, Wish}
use Rattle.lines.specs.Written.{line}
use Rattle.sheets.proofs.writes.TeacherText.put_on.Goals as goal

pub returns : goal.returns
returns c =
    then (omega arith) c.put_line.ensures
    (then (omega arith) c.put_line-2.ensures
    (then (omega arith) (gains_same (ap (line Also) c.as_slice.ensures.value) c.put_line-3.ensures)
    (then (omega arith) (gains_same (ap (line Wish) c.as_slice-2.ensures.value) c.put_line-4.ensures)
    (then (omega arith) c.put_line-5.ensures c.put_line-6.ensures))))
