use Rattle.std.proofs.Common.{◌≡◌, drop}
use Rattle.matching.specs.Picks.{first}
use Rattle.book.specs.Held.{book_model}
use Rattle.book.specs.Reach.{stops_at}
use Rattle.book.proofs.book.Book.comes_to.Given as goal

abbrev pub invariant-loop-k : goal.invariant-loop-k
invariant-loop-k l = first (stops_at (book_model l.self) l.l l.t) l.list ≡ first (stops_at (book_model l.self) l.l l.t) (drop l.k-index l.list)
