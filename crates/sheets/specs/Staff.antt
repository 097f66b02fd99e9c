-- The staff sheet, as read. Assumes nothing.
use Rattle.std.specs.Prelude.{ℕ, ◌+◌, ◌*◌, cond, List, [], length, Ok, Err, Result, ◌==◌, nat_le}
use Rattle.lines.specs.declared.keys.Key.TheVariants.{Teachers, Home, Main, Wish, Points, Cost}
use Rattle.lines.specs.declared.faults.Fault.{Fault}
use Rattle.lines.specs.declared.faults.FaultKind.TheVariants.{TooLong, Trailing}
use Rattle.lines.specs.declared.faults.Spot.{Spot}
use Rattle.lines.specs.Faults.{fault, bind}
use Rattle.sheets.specs.Model.{TeacherRecord}
use Rattle.sheets.specs.Records.{repeat}
use Rattle.lines.specs.Entries.{single, unrepeated, licences}

-- line l of the staff sheet, which begins at place p
abbrev pub staff_spot : ℕ → ℕ → Spot
staff_spot l p = record { sheet = 2; line = l; place = p }

-- the six lines of a teacher, from line l and place p on, and the place behind them
abbrev pub teacher : ℕ → ℕ → List ℕ → ℕ → ℕ → Result (TeacherRecord × ℕ) Fault
teacher schools subjects bs l p =
    bind (single Home 0 schools bs (staff_spot l p)) (λ h.
    bind (single Main 1 subjects bs (staff_spot (l + 1) h.1)) (λ m.
    bind (licences m.0 subjects bs (staff_spot (l + 2) m.1)) (λ a.
    bind (unrepeated Wish 12 schools bs (staff_spot (l + 3) a.1)) (λ w.
    bind (single Points 0 65535 bs (staff_spot (l + 4) w.1)) (λ q.
    bind (single Cost 0 100 bs (staff_spot (l + 5) q.1)) (λ k.
    Ok (record { home = h.0; main = m.0; also = a.0; wish = w.0; points = q.0; cost = k.0 }, k.1)))))))

-- n teachers from line l and place p on, and the place behind them
abbrev pub teachers : ℕ → ℕ → ℕ → List ℕ → ℕ → ℕ → Result (List TeacherRecord × ℕ) Fault
teachers n schools subjects bs l p = repeat (λ done. teacher schools subjects bs) 6 n [] l p

-- behind the last line, at line l, the sheet ends
abbrev pub staff_end : ℕ → List ℕ → List TeacherRecord × ℕ → Result (List TeacherRecord) Fault
staff_end l bs r = cond (r.1 == length bs) (Ok r.0) (Err (fault (staff_spot l r.1) Trailing))

-- the staff sheet of a round with so many schools and subjects, or what is first wrong with it
abbrev pub staff_of : ℕ → ℕ → List ℕ → Result (List TeacherRecord) Fault
staff_of schools subjects bs =
    cond (nat_le (length bs) 30000)
    (bind (single Teachers 1 200 bs (staff_spot 1 0)) (λ n. bind (teachers n.0 schools subjects bs 2 n.1) (staff_end (2 + 6 * n.0) bs)))
    (Err (fault (staff_spot 0 0) TooLong))
