use Rattle.std.proofs.Common.{◌≡◌}
use Rattle.bounded.specs.Listed.{listed}
use Rattle.book.specs.Held.{book_model}
use Rattle.book.specs.Model.{offer_in}
use Rattle.book.specs.Result.{row, seat}
use Rattle.book.proofs.book.Book.seats.Given as goal

abbrev pub invariant-loop-t : goal.invariant-loop-t
invariant-loop-t l = listed l.seats ≡ row (λ t. seat (offer_in (book_model l.self) t)) l.t
