-- How long a bounded list is.
use Rattle.std.proofs.Common.{◌≡◌, ℕ, ◌≤◌, length, arith, length-take}
use Rattle.bounded.specs.declared.list.BoundedList.{BoundedList}
use Rattle.bounded.specs.Listed.{listed}

pub length_listed : {N : ℕ} (f : BoundedList N) → length (listed f) ≡ f.len
length_listed f = simp length-take (omega arith)

pub listed_within : {N : ℕ} (f : BoundedList N) → length (listed f) ≤ N
listed_within f = omega (arith, length_listed f)
