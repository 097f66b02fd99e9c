-- How a lane came onto a teacher's pick list. Assumes nothing.
use Rattle.std.specs.Prelude.{ℕ, Bool, true, false, cond, List, length, Some, None, Option, ◌==◌, nat_lt}
use Rattle.matching.specs.Picks.{place_of}
use Rattle.sheets.specs.Model.{LaneRecord, TeacherRecord}
use Rattle.walkthrough.specs.declared.ending.Source.{Source}
use Rattle.walkthrough.specs.declared.ending.Source.TheVariants.{Wish, OwnSubject, OtherSubject}

-- where the list names the school, from 0
abbrev pub wished_at : ℕ → List ℕ → Option ℕ
wished_at s xs = cond (nat_lt (place_of s xs) (length xs)) (Some (place_of s xs)) None

-- by the place of the wish, if the school is one, and else by whether the subject is the teacher's own
abbrev pub chosen_by : Option ℕ → Bool → Source
chosen_by (Some i) own = Wish i
chosen_by None true = OwnSubject
chosen_by None false = OtherSubject

abbrev pub source : TeacherRecord → LaneRecord → Source
source t l = chosen_by (wished_at l.school t.wish) (l.subject == t.main)
