-- Places in the sheets. Assumes nothing.
use Rattle.std.specs.Prelude.{ℕ}
use Rattle.lines.specs.declared.faults.Sheet.{Sheet}
use Rattle.lines.specs.declared.faults.Spot.{Spot}
use Rattle.lines.specs.Faults.{sheet_number}

-- line l of the sheet, which begins at place p
abbrev pub spot_in : Sheet → ℕ → ℕ → Spot
spot_in s l p = record { sheet = sheet_number s; line = l; place = p }
