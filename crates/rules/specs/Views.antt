-- What the standings and limits keep of the two sheets. Teachers and lanes go by their numbers, from 1. Assumes nothing.
use Rattle.std.specs.Prelude.{ℕ, ◌-◌, cond, List, map, length, nat_lt, slice_index_or}
use Rattle.sheets.specs.Model.{LaneRecord, TeacherRecord, SheetsModel}

-- the entry with the number n, or d where there is none
abbrev pub entry : {A : Type 0} → List A → ℕ → A → A
entry xs n d = cond (nat_lt 0 n) (slice_index_or xs (n - 1) d) d

-- how many lanes there are, and each teacher's points
pub record PointsView : Type 0 where
  pub lanes : ℕ
  pub points : List ℕ

abbrev pub points_view : SheetsModel → PointsView
points_view m = record { lanes = length m.posts.lanes; points = map (λ (t : TeacherRecord). t.points) m.teachers }

-- how many teachers there are, and each lane's list
pub record ListsView : Type 0 where
  pub teachers : ℕ
  pub lists : List (List ℕ)

abbrev pub lists_view : SheetsModel → ListsView
lists_view m = record { teachers = length m.teachers; lists = map (λ (l : LaneRecord). l.list) m.posts.lanes }

-- each lane's size
abbrev pub sizes_view : SheetsModel → List ℕ
sizes_view m = map (λ (l : LaneRecord). l.size) m.posts.lanes

-- each lane's size, and each teacher's cost
pub record PurseView : Type 0 where
  pub sizes : List ℕ
  pub costs : List ℕ

abbrev pub purse_view : SheetsModel → PurseView
purse_view m = record { sizes = sizes_view m; costs = map (λ (t : TeacherRecord). t.cost) m.teachers }

-- each teacher's home school, 0 for a newcomer
abbrev pub homes_view : SheetsModel → List ℕ
homes_view m = map (λ (t : TeacherRecord). t.home) m.teachers
