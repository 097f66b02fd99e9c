-- Which groups fit. A group goes by the teacher's index, the number less 1; there are at most 200 teachers. Assumes nothing.
use Rattle.std.specs.Prelude.{ℕ, Bool, cond, ◌&&◌, List, length, ◌==◌, nat_le, slice_index, slice_index_or}
use Rattle.matching.specs.Count.{sum_to, count}
use Rattle.matching.specs.Groups.{Group}
use Rattle.matching.specs.Log.{within}
use Rattle.rules.specs.Views.{entry, PurseView}

-- how many members the group has
unfoldable pub members : Group → ℕ
members g = count g 200

-- what the members cost together; an unknown teacher costs 0
unfoldable pub cost_of : List ℕ → Group → ℕ
cost_of costs g = sum_to (λ t. cond (g t) (slice_index costs t) 0) 200

-- how many members are newcomers, with home 0; an unknown teacher is none
unfoldable pub newcomers : List ℕ → Group → ℕ
newcomers homes g = count (λ t. g t && slice_index_or homes t 1 == 0) 200

-- seats: at most as many members as the lane's size; an unknown lane has size 0, so that only the empty group fits
abbrev pub fits_seats : List ℕ → ℕ → Group → Bool
fits_seats sizes lane g = nat_le (members g) (entry sizes lane 0)

-- purse: the members' costs add up to at most the lane's size; in an unknown lane only the empty group fits
abbrev pub fits_purse : PurseView → ℕ → Group → Bool
fits_purse v lane g = cond (within lane (length v.sizes)) (nat_le (cost_of v.costs g) (entry v.sizes lane 0)) (members g == 0)

-- newcomer cap over a limit: fits below, and at most so many newcomers (never more than 200 teachers, so a higher number is as good as 200)
abbrev pub fits_capped : (ℕ → Group → Bool) → ℕ → List ℕ → ℕ → Group → Bool
fits_capped below most homes lane g = below lane g && nat_le (newcomers homes g) most
