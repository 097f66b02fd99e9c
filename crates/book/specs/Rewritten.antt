-- The sheets of a round. Assumes nothing.
use Rattle.std.specs.Prelude.{ℕ, suc, List, [], ◌∷◌}
use Rattle.sheets.specs.Model.{SheetsModel, TeacherRecord}
use Rattle.sheets.specs.Tables.{with_wish, posts_sheet, staff_sheet}
use Rattle.book.specs.Model.{Model}

-- the teachers with these wishes, the first teacher's at 0
abbrev pub with_wishes : (ℕ → List ℕ) → List TeacherRecord → List TeacherRecord
with_wishes w [] = []
with_wishes w (t ∷ ts) = with_wish (w 0) t ∷ with_wishes (λ k. w (suc k)) ts

-- what the sheets of a round tell: its posts, and its teachers with the wishes as they now are
abbrev pub sheets_in : Model → SheetsModel
sheets_in m = record { posts = m.0.posts; teachers = with_wishes m.1.wishes m.0.staff }

-- the posts sheet and the staff sheet of a round
abbrev pub posts_in : Model → List ℕ
posts_in m = posts_sheet (sheets_in m)

abbrev pub staff_in : Model → List ℕ
staff_in m = staff_sheet (sheets_in m)
