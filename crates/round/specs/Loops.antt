-- How far settle and sweep have come. Assumes nothing.
use Rattle.std.specs.Prelude.{ℕ, zero, suc, ◌+◌, Bool, ◌&&◌, nat_lt}
use Rattle.matching.specs.Groups.{Group}
use Rattle.matching.specs.Log.{on_some, raise, pressed}
use Rattle.book.specs.Model.{Model, with_cuts}
use Rattle.round.specs.Calls.{over_in, next_in}

-- k presses more
abbrev pub more_presses : ℕ → ℕ × Model → ℕ × Model
more_presses k r = (k + r.0, r.1)

-- what presses of the first over-asked lane make: their number, and the round then
unfoldable pub settle_out : (ℕ → Group → Bool) → Model → ℕ → ℕ × Model
settle_out family m zero = (0, m)
settle_out family m (suc b) = on_some (next_in family m) (0, m) (λ l. more_presses 1 (settle_out family (m.0, with_cuts m.1 (pressed l m.1.cuts)) b))

-- the test passes at k, and k is below i
abbrev pub up_to : (ℕ → Bool) → ℕ → ℕ → Bool
up_to o i k = nat_lt k i && o k

-- a sweep that has come to lane i
abbrev pub swept_to : (ℕ → Group → Bool) → Model → ℕ → Model
swept_to family m i = (m.0, with_cuts m.1 (raise (up_to (over_in family m) i) m.1.cuts))
