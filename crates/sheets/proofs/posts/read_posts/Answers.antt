use Rattle.std.proofs.Common.{map, vec_items, ap, ◌∙◌, arith}
use Rattle.lines.specs.declared.keys.Key.TheVariants.{Schools, Subjects, Lanes}
use Rattle.lines.specs.Entries.{single}
use Rattle.sheets.specs.Model.{lane_record}
use Rattle.sheets.proofs.RecordLaws.{posts_done}
use Rattle.sheets.proofs.posts.read_posts.Goals as goal

pub returns : goal.returns
returns c = posts_done c.args.bytes.now c.in_ok-schools.schools c.in_ok-schools.place c.in_ok-subjects.subjects c.in_ok-subjects.place c.in_ok-count.count c.in_ok-count.place (map lane_record (vec_items c.fill_lanes.new.all.items)) c.in_ok-place.place (omega arith) (c.in_ok-schools.ensures.value ∙ ap (single Schools 1 30 c.args.bytes.now) c.at-2.ensures) (c.in_ok-subjects.ensures.value ∙ ap (single Subjects 1 10 c.args.bytes.now) c.at-3.ensures) (c.in_ok-count.ensures.value ∙ ap (single Lanes 1 80 c.args.bytes.now) c.at-4.ensures) c.in_ok-place.ensures (omega arith)
