-- Numbers parted by commas, as written and as read. Assumes nothing.
use Rattle.std.specs.Prelude.{ℕ, cond, List, [], ◌∷◌, ◌++◌, map, length, Some, None, decimal, Option, ◌==◌, nat_le}
use Rattle.text.specs.Number.{number}

-- the pieces with a comma between each two
abbrev pub join : List (List ℕ) → List ℕ
join [] = []
join (p ∷ []) = p
join (p ∷ q ∷ ps) = p ++ (44 ∷ join (q ∷ ps))

abbrev pub commas : List ℕ → List ℕ
commas ns = join (map decimal ns)

abbrev pub onto : ℕ → List (List ℕ) → List (List ℕ)
onto c [] = (c ∷ []) ∷ []
onto c (p ∷ ps) = (c ∷ p) ∷ ps

-- the pieces between the commas, always one at least
abbrev pub pieces : List ℕ → List (List ℕ)
pieces [] = [] ∷ []
pieces (c ∷ cs) = cond (c == 44) ([] ∷ pieces cs) (onto c (pieces cs))

abbrev pub both : Option ℕ → Option (List ℕ) → Option (List ℕ)
both None o = None
both (Some n) None = None
both (Some n) (Some ns) = Some (n ∷ ns)

abbrev pub each : List (List ℕ) → Option (List ℕ)
each [] = Some []
each (p ∷ ps) = both (number p) (each ps)

-- the numbers of a value: none in the empty one
abbrev pub numbers : List ℕ → Option (List ℕ)
numbers [] = Some []
numbers (b ∷ bs) = each (pieces (b ∷ bs))

abbrev pub prepend : List ℕ → Option (List ℕ) → Option (List ℕ)
prepend ns None = None
prepend ns (Some ms) = Some (ns ++ ms)

-- no more than so many
abbrev pub capped : ℕ → Option (List ℕ) → Option (List ℕ)
capped most None = None
capped most (Some ns) = cond (nat_le (length ns) most) (Some ns) None
