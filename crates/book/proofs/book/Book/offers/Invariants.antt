use Rattle.std.proofs.Common.{◌≡◌, ◌<◌, ℕ, get_or, None}
use Rattle.book.specs.Held.{book_model}
use Rattle.book.specs.Model.{offer_in}
use Rattle.book.proofs.book.Book.offers.Given as goal

abbrev pub invariant-loop-t : goal.invariant-loop-t
invariant-loop-t l = (k : ℕ) → k < l.t → get_or l.offer-items k None ≡ offer_in (book_model l.self) k
