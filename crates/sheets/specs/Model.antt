-- The two sheets as values. Assumes nothing.
use Rattle.std.specs.Prelude.{ℕ, List, []}
use Rattle.bounded.specs.Listed.{listed}
use Rattle.sheets.specs.declared.records.Lane.{Lane}
use Rattle.sheets.specs.declared.records.Teacher.{Teacher}

-- a lane, one subject at one school: its size, and the teachers whom its list names
pub record LaneRecord : Type 0 where
  pub school : ℕ
  pub subject : ℕ
  pub size : ℕ
  pub list : List ℕ

-- a teacher: the school of the present post or 0, the main subject, further licences, the schools wished for, points and cost
pub record TeacherRecord : Type 0 where
  pub home : ℕ
  pub main : ℕ
  pub also : List ℕ
  pub wish : List ℕ
  pub points : ℕ
  pub cost : ℕ

-- the posts sheet: how many schools and subjects there are, and the lanes
pub record PostsModel : Type 0 where
  pub schools : ℕ
  pub subjects : ℕ
  pub lanes : List LaneRecord

-- both sheets
pub record SheetsModel : Type 0 where
  pub posts : PostsModel
  pub teachers : List TeacherRecord

-- the code's lane and teacher, as such records
abbrev pub lane_record : Lane → LaneRecord
lane_record l = record { school = l.school; subject = l.subject; size = l.size; list = listed l.list }

abbrev pub teacher_record : Teacher → TeacherRecord
teacher_record t = record { home = t.home; main = t.main; also = listed t.also; wish = listed t.wish; points = t.points; cost = t.cost }

-- sheets that tell of nothing yet
abbrev pub blank : SheetsModel
blank = record { posts = record { schools = 0; subjects = 0; lanes = [] }; teachers = [] }
