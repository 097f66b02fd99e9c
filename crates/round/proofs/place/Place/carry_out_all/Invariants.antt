use Rattle.std.proofs.Common.{◌≡◌, take}
use Rattle.book.specs.Held.{book_model}
use Rattle.round.specs.Held.{place_of}
use Rattle.round.specs.Promise.{calls_of, answers_of}
use Rattle.round.specs.Running.{ran_place, AnsweredTo}
use Rattle.round.proofs.place.Place.carry_out_all.Given as goal

abbrev pub invariant-loop-entry : goal.invariant-loop-entry
invariant-loop-entry g l =
    (place_of l.self ≡ ran_place g.L.Limit.family (place_of l.initial.self) (take l.entry-index (calls_of l.initial.entries)))
    × (calls_of l.entries ≡ calls_of l.initial.entries)
    × AnsweredTo (g.L.Limit.family l.initial.self.limit) (book_model l.initial.self.book) (calls_of l.initial.entries) l.entry-index (answers_of l.entries)
