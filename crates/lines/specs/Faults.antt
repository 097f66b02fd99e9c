-- What is wrong with a sheet, and where. Assumes nothing.
use Rattle.std.specs.Prelude.{ℕ, if◌then◌else◌, Ok, Err, Result, ◌==◌}
use Rattle.lines.specs.declared.faults.Layer.{Layer}
use Rattle.lines.specs.declared.faults.Layer.TheVariants.{Line, Sheet as WholeSheet}
use Rattle.lines.specs.declared.faults.Sheet.{Sheet}
use Rattle.lines.specs.declared.faults.Sheet.TheVariants.{Posts, Staff}
use Rattle.lines.specs.declared.faults.FaultKind.{FaultKind}
use Rattle.lines.specs.declared.faults.FaultKind.TheVariants.{TooLong, Unended, WrongKey, Malformed, OutOfRange, Disordered, PairTaken, Trailing}
use Rattle.lines.specs.declared.faults.Fault.{Fault}
use Rattle.lines.specs.declared.faults.Spot.{Spot}

-- the number of the question that got a no
abbrev pub number_of : FaultKind → ℕ
number_of TooLong = 1
number_of Unended = 2
number_of WrongKey = 3
number_of Malformed = 4
number_of OutOfRange = 5
number_of Disordered = 6
number_of PairTaken = 7
number_of Trailing = 8

-- a line by itself shows the faults 3 to 6; the others are found by looking at the sheet
abbrev pub layer_of : FaultKind → Layer
layer_of TooLong = WholeSheet
layer_of Unended = WholeSheet
layer_of WrongKey = Line
layer_of Malformed = Line
layer_of OutOfRange = Line
layer_of Disordered = Line
layer_of PairTaken = WholeSheet
layer_of Trailing = WholeSheet

-- sheet 1 is posts and 2 is staff
abbrev pub sheet_number : Sheet → ℕ
sheet_number Posts = 1
sheet_number Staff = 2

-- a number other than 2 means posts
abbrev pub sheet_from : ℕ → Sheet
sheet_from n = if n == 2 then Staff else Posts

-- a fault of the line that begins at the spot
abbrev pub fault : Spot → FaultKind → Fault
fault s k = record { kind = k; sheet = s.sheet; line = s.line; place = s.place; layer = layer_of k }

-- go on with what was read; a fault ends the reading
abbrev pub bind : {A B E : Type 0} → Result A E → (A → Result B E) → Result B E
bind (Ok a) f = f a
bind (Err e) f = Err e

-- a result of the code, by what its value stands for
abbrev pub seen : {T M : Type 0} → (T → M) → Result T Fault → Result M Fault
seen view (Ok x) = Ok (view x)
seen view (Err e) = Err e
