use Rattle.std.proofs.Common.{◌≡◌, ◌+◌, ◌-◌, ◌*◌, map, length, vec_items}
use Rattle.sheets.specs.Records.{repeat}
use Rattle.sheets.specs.Staff.{teacher, teachers}
use Rattle.sheets.specs.Model.{teacher_record}
use Rattle.sheets.proofs.staff.fill_teachers.Given as goal

abbrev pub invariant-loop-i : goal.invariant-loop-i
invariant-loop-i l =
    (l.line ≡ 2 + 6 * l._i)
    × (length (vec_items l.all.items) ≡ l._i)
    × (teachers l.count l.counts.schools l.counts.subjects l.bytes 2 l.start ≡ repeat (λ done. teacher l.counts.schools l.counts.subjects l.bytes) 6 (l.count - l._i) (map teacher_record (vec_items l.all.items)) l.line l.place)
