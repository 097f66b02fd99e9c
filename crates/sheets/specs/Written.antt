-- The two sheets, as written. Assumes nothing.
use Rattle.std.specs.Prelude.{ℕ, cond, List, [], ◌∷◌, ◌++◌, length, drop, Ok, Err, Result, nat_le}
use Rattle.sheets.specs.declared.refusals.WriteRefusal.{WriteRefusal}
use Rattle.sheets.specs.declared.refusals.WriteRefusal.TheVariants.{BufferTooShort}
use Rattle.lines.specs.declared.keys.Key.TheVariants.{Schools, Subjects, Lanes, Lane as LaneKey, List as ListKey, Teachers, Home, Main, Also, Wish, Points, Cost}
use Rattle.lines.specs.Written.{line}
use Rattle.sheets.specs.Model.{LaneRecord, TeacherRecord, PostsModel}

-- what f writes of each, one after another
abbrev pub written_each : {A : Type 0} → (A → List ℕ) → List A → List ℕ
written_each f [] = []
written_each f (x ∷ xs) = f x ++ written_each f xs

abbrev pub lane_bytes : LaneRecord → List ℕ
lane_bytes l = line LaneKey (l.school ∷ l.subject ∷ l.size ∷ []) ++ line ListKey l.list

abbrev pub teacher_bytes : TeacherRecord → List ℕ
teacher_bytes t =
    line Home (t.home ∷ []) ++ (line Main (t.main ∷ []) ++ (line Also t.also ++ (line Wish t.wish ++ (line Points (t.points ∷ []) ++ line Cost (t.cost ∷ [])))))

abbrev pub posts_bytes : PostsModel → List ℕ
posts_bytes m =
    line Schools (m.schools ∷ []) ++ (line Subjects (m.subjects ∷ []) ++ (line Lanes (length m.lanes ∷ []) ++ written_each lane_bytes m.lanes))

abbrev pub staff_bytes : List TeacherRecord → List ℕ
staff_bytes ts = line Teachers (length ts ∷ []) ++ written_each teacher_bytes ts

-- the number of the refusal to write
abbrev pub write_refusal_number : WriteRefusal → ℕ
write_refusal_number BufferTooShort = 18

-- writing s into the lent buffer d: the answer, and the buffer then; bytes behind s stay, and a short buffer is untouched
abbrev pub writing : List ℕ → List ℕ → Result ℕ WriteRefusal × List ℕ
writing s d = cond (nat_le (length s) (length d)) (Ok (length s), s ++ drop (length s) d) (Err BufferTooShort, d)
