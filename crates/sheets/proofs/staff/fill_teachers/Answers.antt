use Rattle.std.proofs.Common.{vec_items, ◌∙◌, arith, length-append}
use Rattle.std.proofs.lemmas.Result.{err_from_is_err_and}
use Rattle.sheets.specs.Staff.{teacher}
use Rattle.sheets.specs.Model.{teacher_record}
use Rattle.sheets.proofs.RecordLaws.{repeat_more, repeat_fails, exits}
use Rattle.sheets.proofs.staff.fill_teachers.Goals as goal

pub returns-in_err-teacher : goal.returns-in_err-teacher
returns-in_err-teacher c =
    let p = err_from_is_err_and c.from_residual.result c.from_residual.ensures.1 in
    exits _ c.from_residual.result p.0 c.in_err-teacher.field-0.0 p.1 p.2 _ (c.loop-i.invariant.2 ∙ repeat_fails (λ done. teacher c.args.counts.schools c.args.counts.subjects c.args.bytes.now) teacher_record 6 c.args.count c.loop-i._i (vec_items c.loop-i.all.items) c.loop-i.line c.loop-i.place (omega arith) c.in_err-teacher.field-0.0 c.in_err-teacher.ensures)

pub loop-i-preserved : goal.loop-i-preserved
loop-i-preserved c =
    (omega arith, simp (c.push.ensures, length-append) (omega arith), c.loop-i.invariant.2 ∙ repeat_more (λ done. teacher c.args.counts.schools c.args.counts.subjects c.args.bytes.now) teacher_record 6 c.args.count c.loop-i._i (vec_items c.loop-i.all.items) c.loop-i.line c.loop-i.place (omega arith) c.in_ok-teacher.teacher c.in_ok-teacher.next c.in_ok-teacher.ensures (vec_items c.push.new.self.items) c.push.ensures)
