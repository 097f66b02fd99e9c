-- The two sheets, as read. Assumes nothing.
use Rattle.std.specs.Prelude.{ℕ, List, Ok, Err, Result}
use Rattle.lines.specs.declared.faults.Fault.{Fault}
use Rattle.lines.specs.Faults.{bind}
use Rattle.sheets.specs.Model.{SheetsModel, blank}
use Rattle.sheets.specs.Posts.{posts_of}
use Rattle.sheets.specs.Staff.{staff_of}

-- first the posts sheet, then the staff sheet in its light
abbrev pub sheets_of : List ℕ → List ℕ → Result SheetsModel Fault
sheets_of posts staff =
    bind (posts_of posts) (λ p. bind (staff_of p.schools p.subjects staff) (λ ts. Ok (record { posts = p; teachers = ts })))

-- what reading answers, and what the sheets' place in memory then holds: nothing after a fault
abbrev pub reading : Result SheetsModel Fault → Result (Unit {0}) Fault × SheetsModel
reading (Ok m) = (Ok tt, m)
reading (Err e) = (Err e, blank)
