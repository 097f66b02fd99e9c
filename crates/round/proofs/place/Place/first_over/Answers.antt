use Rattle.std.proofs.Common.{◌≡◌, true, false, rules, length}
use Rattle.std.proofs.lemmas.Iterator.{first_from_Range}
use Rattle.book.specs.Held.{book_model}
use Rattle.round.specs.Calls.{over_in}
use Rattle.round.proofs.Over.{least_is}
use Rattle.round.proofs.place.Place.first_over.Goals as goal

pub returns : goal.returns
returns g c =
    let p = c.args.self.now in
    let over = over_in (g.L.Limit.family p.limit) (book_model p.book) in
    least_is over (length (book_model p.book).0.posts.lanes) c.lane_count.result c.find.result c.lane_count.ensures.value
    (first_from_Range _ _ _ c.find.result (λ l. over l ≡ true) (λ l. over l ≡ false) c.find.ensures.ran (λ l q k. search rules) (λ l q k. search rules))
