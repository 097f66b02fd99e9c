use Rattle.std.proofs.Common.{not, ap, ◌∙◌, arith}
use Rattle.book.specs.Held.{book_model}
use Rattle.round.proofs.Over.{crowded_is}
use Rattle.round.proofs.place.Place.is_crowded.Goals as goal

pub returns : goal.returns
returns g c =
    let p = c.args.self.now in
    ap not c.fits.ensures
    ∙ crowded_is (g.L.Limit.family p.limit) (book_model p.book) c.args.l c.asker_row-row.result c.args.offers.now (omega (arith, c.lane_count.ensures.value)) (c.asker_row-row.ensures c.requires.long) c.requires.each
