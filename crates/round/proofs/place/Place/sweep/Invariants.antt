use Rattle.std.proofs.Common.{◌≡◌, ◌≤◌}
use Rattle.matching.specs.Count.{count}
use Rattle.book.specs.Held.{book_model}
use Rattle.round.specs.Calls.{over_in}
use Rattle.round.specs.Loops.{swept_to}
use Rattle.round.proofs.place.Place.sweep.Given as goal

abbrev pub invariant-loop-l : goal.invariant-loop-l
invariant-loop-l g l =
    (book_model l.self.book ≡ swept_to (g.L.Limit.family l.initial.self.limit) (book_model l.initial.self.book) l.l)
    × (l.raised ≡ count (over_in (g.L.Limit.family l.initial.self.limit) (book_model l.initial.self.book)) l.l) × (l.raised ≤ l.l)
    × (l.self.standing ≡ l.initial.self.standing) × (l.self.limit ≡ l.initial.self.limit)
