-- Sheets within their ranges. Assumes nothing.
use Rattle.std.specs.Prelude.{ℕ, Bool, true, not, ◌&&◌, List, [], ◌∷◌, length, ◌==◌, nat_le}
use Rattle.lines.specs.Entries.{within, all_within, distinct, further}
use Rattle.sheets.specs.Model.{LaneRecord, TeacherRecord, PostsModel, SheetsModel}
use Rattle.sheets.specs.Posts.{taken, lane_within}

abbrev pub every : {A : Type 0} → (A → Bool) → List A → Bool
every p [] = true
every p (x ∷ xs) = p x && every p xs

-- at most `most` numbers, each from 1 to high
abbrev pub few_within : ℕ → ℕ → List ℕ → Bool
few_within most high ns = nat_le (length ns) most && all_within 1 high ns

-- a wish list may have at most 12 schools, each of the round, none twice
abbrev pub wish_ok : ℕ → List ℕ → Bool
wish_ok schools w = few_within 12 schools w && distinct w

abbrev pub lane_ok : ℕ → ℕ → LaneRecord → Bool
lane_ok schools subjects l = lane_within schools subjects l.school l.subject l.size && (few_within 20 200 l.list && distinct l.list)

-- no two lanes have the same school and subject
abbrev pub apart : List LaneRecord → Bool
apart [] = true
apart (l ∷ ls) = not (taken l.school l.subject ls) && apart ls

abbrev pub posts_ok : PostsModel → Bool
posts_ok m =
    within 1 30 m.schools && (within 1 10 m.subjects && (within 1 80 (length m.lanes)
    && (every (lane_ok m.schools m.subjects) m.lanes && apart m.lanes)))

abbrev pub teacher_ok : ℕ → ℕ → TeacherRecord → Bool
teacher_ok schools subjects t =
    nat_le t.home schools && (within 1 subjects t.main && (few_within 9 subjects t.also && (further t.main t.also
    && (few_within 12 schools t.wish && (distinct t.wish && (nat_le t.points 65535 && nat_le t.cost 100))))))

abbrev pub staff_ok : ℕ → ℕ → List TeacherRecord → Bool
staff_ok schools subjects ts = within 1 200 (length ts) && every (teacher_ok schools subjects) ts

-- both sheets; the ranges of the staff sheet depend on the posts sheet
abbrev pub in_range : SheetsModel → Bool
in_range m = posts_ok m.posts && staff_ok m.posts.schools m.posts.subjects m.teachers

-- sheets that tell of nothing yet
abbrev pub is_blank : SheetsModel → Bool
is_blank m = m.posts.schools == 0 && (m.posts.subjects == 0 && (length m.posts.lanes == 0 && length m.teachers == 0))
