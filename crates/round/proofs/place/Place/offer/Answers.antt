use Rattle.std.proofs.Common.{sym, ◌∙◌, arith}
use Rattle.book.proofs.Results.{few_lanes, offer_inside}
use Rattle.round.proofs.place.Place.offer.Goals as goal

pub map-requires : goal.map-requires
map-requires g c l is fits ranges =
    let b = c.args.self.now.book in
    omega (arith, few_lanes b, offer_inside b c.in_ok-at.at l (sym c.offer.ensures ∙ is))
