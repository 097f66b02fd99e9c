use Rattle.std.proofs.Common.{◌≡◌, ◌-◌}
use Rattle.book.specs.Held.{book_model}
use Rattle.round.specs.Loops.{settle_out, more_presses}
use Rattle.round.proofs.place.Place.settle.Given as goal

abbrev pub invariant-loop-i : goal.invariant-loop-i
invariant-loop-i g l =
    (settle_out (g.L.Limit.family l.initial.self.limit) (book_model l.initial.self.book) l.budget ≡ more_presses l.i (settle_out (g.L.Limit.family l.initial.self.limit) (book_model l.self.book) (l.budget - l.i)))
    × (l.self.standing ≡ l.initial.self.standing) × (l.self.limit ≡ l.initial.self.limit)
