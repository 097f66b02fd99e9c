-- Who is ahead of whom. Assumes nothing.
use Rattle.std.specs.Prelude.{ℕ, Bool, cond, ◌&&◌, [], length, nat_lt}
use Rattle.matching.specs.Log.{within}
use Rattle.matching.specs.Picks.{place_of}
use Rattle.rules.specs.Views.{entry, PointsView, ListsView}

-- by points: in every lane of the sheets more points are ahead; an unknown teacher has 0, and in an unknown lane nobody is ahead
abbrev pub ahead_by_points : PointsView → ℕ → ℕ → ℕ → Bool
ahead_by_points v lane a b = within lane v.lanes && nat_lt (entry v.points b 0) (entry v.points a 0)

-- the place of a teacher on the lane's list; its length where the list does not name the teacher, or where there is no such teacher
abbrev pub place_on : ListsView → ℕ → ℕ → ℕ
place_on v lane t = let xs = entry v.lists lane [] in cond (within t v.teachers) (place_of t xs) (length xs)

-- by list: a is ahead of b if the lane's list names a, and names b later or not at all
abbrev pub ahead_by_list : ListsView → ℕ → ℕ → ℕ → Bool
ahead_by_list v lane a b = nat_lt (place_on v lane a) (place_on v lane b)
