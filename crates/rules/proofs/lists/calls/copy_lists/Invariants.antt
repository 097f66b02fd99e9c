use Rattle.std.proofs.Common.{◌≡◌, map, length, take, vec_items}
use Rattle.bounded.specs.Listed.{listed}
use Rattle.sheets.specs.Model.{LaneRecord, lane_record}
use Rattle.rules.proofs.lists.calls.copy_lists.Given as goal

abbrev pub invariant-loop-lane : goal.invariant-loop-lane
invariant-loop-lane l =
    (length (vec_items l.lists.items) ≡ l.lane-index)
    × (map listed (vec_items l.lists.items) ≡ map (λ (k : LaneRecord). k.list) (map lane_record (take l.lane-index l.lanes)))
