-- What filling from two sheets answers and leaves. Assumes nothing.
use Rattle.std.specs.Prelude.{Ok, Err, Result}
use Rattle.lines.specs.declared.faults.Fault.{Fault}
use Rattle.sheets.specs.Model.{SheetsModel}

-- the answer, and what is then held: by the view of what the sheets describe, or, on a fault, what was held before
abbrev pub filling : {V : Type 0} → (SheetsModel → V) → Result SheetsModel Fault → V → Result (Unit {0}) Fault × V
filling view (Ok m) old = (Ok tt, view m)
filling view (Err e) old = (Err e, old)
