-- Pick lists: a teacher's preferences over lanes. An earlier lane is better, none is worst, and a lane off the list is not liked at all. Assumes nothing.
use Rattle.std.specs.Prelude.{ℕ, zero, suc, ◌<◌, Bool, false, cond, List, [], ◌∷◌, length, Some, None, Option, ◌==◌}

-- where the lane stands on the list, from 0; the list's length if it is not on it
unfoldable pub place_of : ℕ → List ℕ → ℕ
place_of l [] = zero
place_of l (x ∷ xs) = cond (x == l) zero (suc (place_of l xs))

-- the place of a lane or of none: the smaller the place, the better liked
abbrev pub place : Option ℕ → List ℕ → ℕ
place None xs = length xs
place (Some l) xs = place_of l xs

-- the lane is on the list
abbrev pub On : ℕ → List ℕ → Type 0
On l xs = place_of l xs < length xs

-- the best liked lane of the list that passes the test
unfoldable pub first : (ℕ → Bool) → List ℕ → Option ℕ
first p [] = None
first p (x ∷ xs) = cond (p x) (Some x) (first p xs)

-- the lane given, if any, is this lane
abbrev pub holds : Option ℕ → ℕ → Bool
holds None l = false
holds (Some k) l = k == l
