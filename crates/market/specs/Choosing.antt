-- What a teacher of a round picks from. Assumes nothing.
use Rattle.std.specs.Prelude.{◌≡◌, ℕ, Bool, List, length, slice_index_or}
use Rattle.sheets.specs.declared.records.Lane.{Lane}
use Rattle.sheets.specs.Held.{model_of}
use Rattle.sheets.specs.Model.{LaneRecord, lane_record, teacher_record}
use Rattle.market.specs.declared.picks.Chooser.{Chooser}
use Rattle.market.specs.Lists.{keep_to}
use Rattle.market.specs.Tables.{Person, person, no_lane, at_school}

-- each answer about a lane is the test's
abbrev pub Answers : (Lane → Bool → Type 0) → (LaneRecord → Bool) → Type 0
Answers says test = (lane : Lane) (answer : Bool) → says lane answer → answer ≡ test (lane_record lane)

-- the lanes that pass the test, in declaration order, each by its index
abbrev pub passing : (LaneRecord → Bool) → List LaneRecord → List ℕ
passing test ls = keep_to (λ l. test (slice_index_or ls l no_lane)) (length ls)

-- the lanes of the round
abbrev pub lanes_of : Chooser → List LaneRecord
lanes_of c = (model_of c.sheets.now).posts.lanes

-- what of the teacher stays the same through the round
abbrev pub person_of : Chooser → Person
person_of c = person (teacher_record c.teacher.now)

-- what a school gives the teacher
abbrev pub gives : Chooser → ℕ → List ℕ
gives c = at_school (lanes_of c) (person_of c)
