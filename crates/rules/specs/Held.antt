-- What the standings and limits hold. Assumes nothing.
use Rattle.std.specs.Prelude.{ℕ, List, map, vec_items}
use Rattle.bounded.specs.Listed.{listed}
use Rattle.rules.specs.declared.points.Points.{Points}
use Rattle.rules.specs.declared.lists.Lists.{Lists}
use Rattle.rules.specs.declared.seats.Seats.{Seats}
use Rattle.rules.specs.declared.purse.Purse.{Purse}
use Rattle.rules.specs.Views.{PointsView, ListsView, PurseView}

abbrev pub points_held : Points → PointsView
points_held p = record { lanes = p.lanes; points = listed p.points }

abbrev pub lists_held : Lists → ListsView
lists_held l = record { teachers = l.teachers; lists = map listed (vec_items l.lists.items) }

abbrev pub seats_held : Seats → List ℕ
seats_held s = listed s.sizes

abbrev pub purse_held : Purse → PurseView
purse_held p = record { sizes = listed p.sizes; costs = listed p.costs }
