use Rattle.std.proofs.Common.{map, vec_items, ap, ◌∙◌, arith, length-append}
use Rattle.std.proofs.lemmas.Result.{err_from_is_err_and}
use Rattle.sheets.specs.Model.{lane_record}
use Rattle.sheets.specs.Posts.{lane}
use Rattle.sheets.proofs.RecordLaws.{repeat_more, repeat_fails, exits}
use Rattle.sheets.proofs.posts.fill_lanes.Goals as goal

pub returns-in_err-lane : goal.returns-in_err-lane
returns-in_err-lane c =
    let p = err_from_is_err_and c.from_residual.result c.from_residual.ensures.1 in
    let one = lane c.args.counts.schools c.args.counts.subjects c.args.bytes.now in
    exits _ c.from_residual.result p.0 c.in_err-lane.field-0.0 p.1 p.2 _ (c.loop-i.invariant.2 ∙ repeat_fails one lane_record 2 c.args.count c.loop-i._i (vec_items c.loop-i.all.items) c.loop-i.line c.loop-i.place (omega arith) c.in_err-lane.field-0.0 (c.in_err-lane.ensures ∙ ap (λ d. one (map lane_record d) c.loop-i.line c.loop-i.place) c.as_slice.ensures.value))

pub loop-i-preserved : goal.loop-i-preserved
loop-i-preserved c =
    let one = lane c.args.counts.schools c.args.counts.subjects c.args.bytes.now in
    (omega arith, simp (c.push.ensures, length-append) (omega arith), c.loop-i.invariant.2 ∙ repeat_more one lane_record 2 c.args.count c.loop-i._i (vec_items c.loop-i.all.items) c.loop-i.line c.loop-i.place (omega arith) c.in_ok-lane.lane c.in_ok-lane.next (c.in_ok-lane.ensures ∙ ap (λ d. one (map lane_record d) c.loop-i.line c.loop-i.place) c.as_slice.ensures.value) (vec_items c.push.new.self.items) c.push.ensures)
