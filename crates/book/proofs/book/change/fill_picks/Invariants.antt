use Rattle.std.proofs.Common.{◌≡◌, map, length, take, vec_items}
use Rattle.bounded.specs.Listed.{listed}
use Rattle.market.specs.Tables.{person, pick_of}
use Rattle.sheets.specs.declared.records.Teacher.{Teacher}
use Rattle.sheets.specs.Held.{model_of}
use Rattle.sheets.specs.Model.{teacher_record}
use Rattle.book.proofs.book.change.fill_picks.Given as goal

abbrev pub invariant-loop-record : goal.invariant-loop-record
invariant-loop-record l =
    (map listed (vec_items l.picks.items) ≡ map (λ (x : Teacher). take 80 (pick_of (model_of l.sheets).posts (person (teacher_record x)) (listed x.wish))) (take l.record-index l.record-items))
    × (length (vec_items l.picks.items) ≡ l.record-index)
