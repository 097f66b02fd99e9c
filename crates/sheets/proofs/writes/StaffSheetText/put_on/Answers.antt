use Rattle.std.proofs.Common.{arith}
use Rattle.text.proofs.PageLaws.{then}
use Rattle.lines.specs.declared.keys.Key.TheVariants.{Teachers}
use Rattle.sheets.specs.Model.{teacher_record}
use Rattle.sheets.specs.Written.{teacher_bytes}
use Rattle.sheets.proofs.WriteLaws.{count_line, records}
use Rattle.sheets.proofs.writes.StaffSheetText.put_on.Goals as goal

pub returns : goal.returns
returns c =
    let same = c.teachers-teachers.ensures.value in
    then (omega arith) (count_line teacher_record _ _ same Teachers c.put_line.ensures) (records teacher_record _ _ same teacher_bytes c.put_each.ensures)
