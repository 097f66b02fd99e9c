-- What a teacher's rank in a lane counts for, whatever the lane's own cutoff. Assumes nothing.
use Rattle.std.specs.Prelude.{ℕ, Bool, cond, ◌&&◌, ◌||◌, ◌==◌, nat_le, nat_lt}
use Rattle.matching.specs.Log.{picks}
use Rattle.matching.specs.Picks.{first, holds}
use Rattle.book.specs.Model.{Model, anyone, board_in, clears_in}

-- on the way down a pick list: the lane is l, or the teacher clears it
abbrev pub stops_at : Model → ℕ → ℕ → ℕ → Bool
stops_at m l t k = k == l || clears_in m t k

-- lane l is on the teacher's pick list, and no lane before it is cleared
abbrev pub comes_to : Model → ℕ → ℕ → Bool
comes_to m l t = holds (first (stops_at m l t) (picks (board_in anyone m.0) m.1 t)) l

-- the highest cutoff of lane l at which the teacher would ask for it; 0 if there is none
abbrev pub reach_in : Model → ℕ → ℕ → ℕ
reach_in m l t = cond (comes_to m l t) (m.0.ranks l t) 0

-- a teacher with this reach asks at the cutoff
abbrev pub reaches : ℕ → ℕ → Bool
reaches cut reach = nat_lt 0 reach && nat_le cut reach
