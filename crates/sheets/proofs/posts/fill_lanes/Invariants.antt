use Rattle.std.proofs.Common.{◌≡◌, ◌+◌, ◌-◌, ◌*◌, map, length, vec_items}
use Rattle.sheets.specs.Records.{repeat}
use Rattle.sheets.specs.Model.{lane_record}
use Rattle.sheets.specs.Posts.{lane, lanes}
use Rattle.sheets.proofs.posts.fill_lanes.Given as goal

abbrev pub invariant-loop-i : goal.invariant-loop-i
invariant-loop-i l =
    (l.line ≡ 4 + 2 * l._i)
    × (length (vec_items l.all.items) ≡ l._i)
    × (lanes l.count l.counts.schools l.counts.subjects l.bytes l.start ≡ repeat (lane l.counts.schools l.counts.subjects l.bytes) 2 (l.count - l._i) (map lane_record (vec_items l.all.items)) l.line l.place)
