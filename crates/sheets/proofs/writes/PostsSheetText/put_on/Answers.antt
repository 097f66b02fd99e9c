use Rattle.std.proofs.Common.{arith}
use Rattle.text.proofs.PageLaws.{then}
use Rattle.lines.specs.declared.keys.Key.TheVariants.{Schools, Subjects, Lanes}
use Rattle.sheets.specs.Model.{lane_record}
use Rattle.sheets.specs.Written.{lane_bytes}
use Rattle.sheets.proofs.WriteLaws.{number_line, count_line, records}
use Rattle.sheets.proofs.writes.PostsSheetText.put_on.Goals as goal

pub returns : goal.returns
returns c =
    let same = c.lanes-lanes.ensures.value in
    then (omega arith) (number_line Schools c.schools.ensures c.put_line.ensures)
    (then (omega arith) (number_line Subjects c.subjects.ensures c.put_line-2.ensures)
    (then (omega arith) (count_line lane_record _ _ same Lanes c.put_line-3.ensures) (records lane_record _ _ same lane_bytes c.put_each.ensures)))
