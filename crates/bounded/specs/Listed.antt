-- What a bounded list stands for. Assumes nothing.
use Rattle.std.specs.Prelude.{ℕ, if◌then◌else◌, List, [], ◌∷◌, ◌++◌, length, take, nat_lt, Ok, Err, Result}
use Rattle.bounded.specs.declared.list.BoundedList.{BoundedList}
use Rattle.bounded.specs.declared.list.Full.{Full}

-- the numbers of the list, in order
abbrev pub listed : {N : ℕ} → BoundedList N → List ℕ
listed f = take f.len f.items

-- a number more at the end, where the bound leaves room: the answer, and the list then
abbrev pub pushed : ℕ → List ℕ → ℕ → Result (Unit {0}) Full × List ℕ
pushed bound xs x = if nat_lt (length xs) bound then (Ok tt, xs ++ x ∷ []) else (Err (record {}), xs)
