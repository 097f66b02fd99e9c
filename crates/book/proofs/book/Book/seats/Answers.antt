use Rattle.std.proofs.Common.{◌≡◌, ℕ, ◌<◌, Some, None, Option, IfSome, sym, ap, ◌∙◌, refl, arith}
use Rattle.bounded.specs.Listed.{listed}
use Rattle.book.specs.Held.{book_model}
use Rattle.book.specs.Model.{offer_in}
use Rattle.book.specs.Result.{seat}
use Rattle.book.proofs.Results.{row_none, row_push, few_lanes, offer_inside}
use Rattle.book.proofs.book.Book.seats.Goals as goal

few : (o : Option ℕ) → ((l : ℕ) → o ≡ Some l → l < 80) → IfSome o (λ l. l < 80)
few None h = tt
few (Some l) h = h l refl

pub loop-t-init : goal.loop-t-init
loop-t-init c = c.new-seats.ensures ∙ row_none (λ t. seat (offer_in (book_model c.args.self.now) t))

pub seat-requires : goal.seat-requires
seat-requires c =
    let b = c.args.self.now in
    few c.offer.result (λ l h. omega (arith, few_lanes b, offer_inside b c.loop-t.t l (sym c.offer.ensures ∙ h)))

pub loop-t-preserved : goal.loop-t-preserved
loop-t-preserved c =
    let b = c.args.self.now in
    row_push (λ t. seat (offer_in (book_model b) t)) 200 c.loop-t.t c.seat.result (listed c.loop-t.seats) (listed c.push.new.self) c.push.result c.loop-t.invariant (omega (arith, c.teacher_count-t-end.ensures.few)) (c.seat.ensures ∙ ap seat c.offer.ensures) c.push.ensures
