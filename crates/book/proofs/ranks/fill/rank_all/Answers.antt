use Rattle.std.proofs.Common.{◌+◌, ◌≤◌, map, length, arith}
use Rattle.std.proofs.lemmas.List.{length-map}
use Rattle.market.specs.Tables.{person, band_in}
use Rattle.sheets.specs.Model.{teacher_record}
use Rattle.book.proofs.RankTable.{rank_high}
use Rattle.book.proofs.ranks.fill.rank_all.Goals as goal

pub set_lane-requires-clause-small : goal.set_lane-requires-clause-small
set_lane-requires-clause-small g c t =
    let ts = c.teachers.result.now in
    let bands = map (band_in c.lane-item.result.subject) (map person (map teacher_record ts)) in
    let few : length bands ≤ 200 = omega (arith, c.teachers.ensures.few, length-map (map person (map teacher_record ts)) (band_in c.lane-item.result.subject), length-map (map teacher_record ts) person, length-map ts teacher_record) in
    omega (arith, c.rank_row-row.ensures t, rank_high (g.S.Standing.ahead c.args.standing.now) (c.loop-l.l + 1) bands few t)
