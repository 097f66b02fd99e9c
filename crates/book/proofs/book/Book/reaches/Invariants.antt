use Rattle.std.proofs.Common.{◌≡◌, ◌<◌, ℕ, get_or}
use Rattle.book.specs.Held.{book_model}
use Rattle.book.specs.Reach.{reach_in}
use Rattle.book.proofs.book.Book.reaches.Given as goal

abbrev pub invariant-loop-t : goal.invariant-loop-t
invariant-loop-t l = (k : ℕ) → k < l.t → get_or l.reach-items k 0 ≡ reach_in (book_model l.self) l.l k
