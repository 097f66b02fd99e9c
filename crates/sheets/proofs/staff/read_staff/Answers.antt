use Rattle.std.proofs.Common.{map, vec_items, ap, ◌∙◌, arith}
use Rattle.lines.specs.declared.keys.Key.TheVariants.{Teachers}
use Rattle.lines.specs.Entries.{single}
use Rattle.sheets.specs.Model.{teacher_record}
use Rattle.sheets.proofs.RecordLaws.{staff_done}
use Rattle.sheets.proofs.staff.read_staff.Goals as goal

pub returns : goal.returns
returns c = staff_done c.args.counts.schools c.args.counts.subjects c.args.bytes.now c.in_ok-count.count c.in_ok-count.place (map teacher_record (vec_items c.fill_teachers.new.all.items)) c.in_ok-place.place (omega arith) (c.in_ok-count.ensures.value ∙ ap (single Teachers 1 200 c.args.bytes.now) c.at-2.ensures) c.in_ok-place.ensures (omega arith)
