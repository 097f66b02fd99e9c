-- Groups of teachers. A teacher goes by the index, which is the number less 1. Assumes nothing.
use Rattle.std.specs.Prelude.{◌≡◌, ℕ, Bool, true, false, not, ◌&&◌, List, ◌==◌, nat_lt, slice_index}

-- who is in
abbrev pub Group : Type 0
Group = ℕ → Bool

-- the empty group
abbrev pub nobody : Group
nobody = λ k. false

-- h is a part of g: who is in h is in g
abbrev pub Part : Group → Group → Type 0
Part h g = (k : ℕ) → h k ≡ true → g k ≡ true

-- the group that a row of bytes tells, one byte a teacher: 0 is out, all else in; past the row's end out, and bytes past the 200th do not count
abbrev pub told : List ℕ → Group
told row = λ k. nat_lt k 200 && not (slice_index row k == 0)
