-- What the sheets' place in memory holds. Assumes nothing.
use Rattle.std.specs.Prelude.{ℕ, Bool, cond, if◌then◌else◌, ◌||◌, List, [], map, length, Ok, Err, Result, nat_lt, slice_index_or, slice_set}
use Rattle.sheets.specs.declared.records.Lane.{Lane}
use Rattle.sheets.specs.declared.records.Teacher.{Teacher}
use Rattle.sheets.specs.declared.refusals.WishRefusal.{WishRefusal}
use Rattle.sheets.specs.declared.refusals.WishRefusal.TheVariants.{NoTeacher, BadWishes}
use Rattle.sheets.specs.Model.{PostsModel, SheetsModel, TeacherRecord, lane_record, teacher_record}
use Rattle.sheets.specs.Ranges.{in_range, is_blank, wish_ok}
use Rattle.sheets.specs.Written.{posts_bytes, staff_bytes}

-- the code's tables, as the model
abbrev pub posts_model : ℕ → ℕ → List Lane → PostsModel
posts_model schools subjects ls = record { schools = schools; subjects = subjects; lanes = map lane_record ls }

abbrev pub tables_model : ℕ → ℕ → List Lane → List Teacher → SheetsModel
tables_model schools subjects ls ts = record { posts = posts_model schools subjects ls; teachers = map teacher_record ts }

-- nothing yet, or a pair of sheets within its ranges
abbrev pub kept : SheetsModel → Bool
kept m = is_blank m || in_range m

-- the sheets that are written of a model: of the blank one they are empty
abbrev pub posts_sheet : SheetsModel → List ℕ
posts_sheet m = cond (is_blank m) [] (posts_bytes m.posts)

abbrev pub staff_sheet : SheetsModel → List ℕ
staff_sheet m = cond (is_blank m) [] (staff_bytes m.teachers)

-- the teacher with another wish list
abbrev pub with_wish : List ℕ → TeacherRecord → TeacherRecord
with_wish w t = record { home = t.home; main = t.main; also = t.also; wish = w; points = t.points; cost = t.cost }

abbrev pub nobody : TeacherRecord
nobody = record { home = 0; main = 0; also = []; wish = []; points = 0; cost = 0 }

-- the sheets with another wish list for the teacher at index t, if there is such a teacher and the list is acceptable: the answer, and the sheets then
abbrev pub rewished : SheetsModel → ℕ → List ℕ → Result (Unit {0}) WishRefusal × SheetsModel
rewished m t w =
    if nat_lt t (length m.teachers) then
    if wish_ok m.posts.schools w then (Ok tt, record { posts = m.posts; teachers = slice_set m.teachers t (with_wish w (slice_index_or m.teachers t nobody)) })
    else (Err BadWishes, m)
    else (Err NoTeacher, m)
