use Rattle.std.proofs.Common.{◌≡◌, ◌<◌, ℕ, get_or, false}
use Rattle.book.specs.Held.{book_model}
use Rattle.round.specs.Calls.{over_in}
use Rattle.round.proofs.place.Place.over_marks.Given as goal

abbrev pub invariant-loop-l : goal.invariant-loop-l
invariant-loop-l g l = (k : ℕ) → k < l.l → get_or l.mark-items k false ≡ over_in (g.L.Limit.family l.self.limit) (book_model l.self.book) k
