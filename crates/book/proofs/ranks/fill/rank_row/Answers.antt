use Rattle.std.proofs.Common.{◌≤◌, map, length, replicate, ap, ◌∙◌, arith}
use Rattle.std.proofs.lemmas.List.{length-map}
use Rattle.matching.specs.Ranking.{ranked}
use Rattle.market.specs.Tables.{person, band_in}
use Rattle.sheets.specs.Model.{teacher_record}
use Rattle.book.proofs.RankTable.{row_at}
use Rattle.book.proofs.ranks.fill.rank_row.Goals as goal

pub returns : goal.returns
returns g c =
    let ts = c.args.teachers.now in
    let bands = map (band_in c.args.subject) (map person (map teacher_record ts)) in
    let ahead = g.S.Standing.ahead c.args.standing.now in
    let few : length bands ≤ 200 = omega (arith, c.requires, length-map (map person (map teacher_record ts)) (band_in c.args.subject), length-map (map teacher_record ts) person, length-map ts teacher_record) in
    row_at ahead c.args.lane bands few c.fill_ranks.new.ranks (c.fill_ranks.ensures.filled ∙ ap (λ b. ranked ahead c.args.lane b (replicate 200 0)) (c.bands_of-bands.ensures c.requires))
