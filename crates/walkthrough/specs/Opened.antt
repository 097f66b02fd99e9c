-- A place that is opened from two sheets, with the points and the seats of the same sheets. Assumes nothing.
use Rattle.std.specs.Prelude.{◌≡◌, Ok, Result}
use Rattle.lines.specs.declared.faults.Fault.{Fault}
use Rattle.sheets.specs.Model.{SheetsModel}
use Rattle.book.specs.Model.{opening}
use Rattle.round.specs.Held.{PlaceModel}
use Rattle.rules.specs.Held.{points_held, seats_held}
use Rattle.rules.specs.Standings.{ahead_by_points}
use Rattle.rules.specs.Views.{points_view, sizes_view}
use Rattle.rules.specs.declared.points.Points.{Points}
use Rattle.rules.specs.declared.seats.Seats.{Seats}

-- the sheets describe m; points decide, sizes are seats, and the round is that of m, just opened
abbrev pub OpenedWith : Result SheetsModel Fault → SheetsModel → PlaceModel Points Seats → Type 0
OpenedWith s m p =
    (s ≡ Ok m) × (points_held p.standing ≡ points_view m) × (seats_held p.limit ≡ sizes_view m) × (p.round ≡ opening (ahead_by_points (points_view m)) m)
