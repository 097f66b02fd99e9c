-- The market that tables of lanes and teachers, a standing and a limit make up. Inside, lanes and teachers go by their index, which is the number
-- on the sheet less 1; schools and subjects go by their numbers. Assumes nothing.
use Rattle.std.specs.Prelude.{ℕ, ◌+◌, Bool, cond, not, ◌&&◌, ◌||◌, List, [], ◌∷◌, ◌++◌, map, length, ◌==◌, nat_lt, slice_index_or}
use Rattle.lines.specs.Entries.{has}
use Rattle.matching.specs.Groups.{Group}
use Rattle.matching.specs.Market.{Market}
use Rattle.matching.specs.Ranking.{stands_before}
use Rattle.sheets.specs.Model.{LaneRecord, TeacherRecord, PostsModel, SheetsModel}
use Rattle.sheets.specs.Ranges.{wish_ok}
use Rattle.market.specs.Lists.{join_to, keep_to, gather}

-- what of a teacher stays the same through a round: the home school or 0, the main subject, the further licences
pub record Person : Type 0 where
  pub home : ℕ
  pub main : ℕ
  pub also : List ℕ

abbrev pub person : TeacherRecord → Person
person t = record { home = t.home; main = t.main; also = t.also }

-- what the sheets tell of a round but for the wishes
pub record Tables : Type 0 where
  pub posts : PostsModel
  pub people : List Person

abbrev pub tables_of : SheetsModel → Tables
tables_of m = record { posts = m.posts; people = map person m.teachers }

-- the wish lists of the staff sheet, by the teacher's index
abbrev pub wishes_of : SheetsModel → ℕ → List ℕ
wishes_of m t = slice_index_or (map (λ (r : TeacherRecord). r.wish) m.teachers) t []

-- what stands past the end of the tables
abbrev pub no_lane : LaneRecord
no_lane = record { school = 0; subject = 0; size = 0; list = [] }

abbrev pub stranger : Person
stranger = record { home = 0; main = 0; also = [] }

-- with no home a newcomer, else an incumbent
abbrev pub newcomer : Person → Bool
newcomer p = p.home == 0

-- licensed for lanes of the subject: it is the main subject or a further licence
abbrev pub teaches : Person → ℕ → Bool
teaches p k = p.main == k || has k p.also

-- the band of a teacher in a lane of the subject: 1 own incumbents, 2 other incumbents, 3 newcomers with the subject as main subject, 4 other newcomers
abbrev pub band_of : Person → ℕ → ℕ
band_of p k = cond (newcomer p) (cond (p.main == k) 3 4) (cond (p.main == k) 1 2)

-- the same, and 0 for a teacher who is not licensed
abbrev pub band_in : ℕ → Person → ℕ
band_in k p = cond (teaches p k) (band_of p k) 0

-- the completed wish list: for an incumbent every school that is not named follows, in declaration order
abbrev pub unnamed : ℕ → List ℕ → List ℕ
unnamed schools w = join_to (λ k. cond (has (k + 1) w) [] ((k + 1) ∷ [])) schools

unfoldable pub completed : ℕ → Person → List ℕ → List ℕ
completed schools p w = w ++ cond (newcomer p) [] (unnamed schools w)

-- the lane is at the school, and of the main subject, or else of a further licence
abbrev pub main_at : Person → ℕ → LaneRecord → Bool
main_at p s x = x.school == s && x.subject == p.main

abbrev pub also_at : Person → ℕ → LaneRecord → Bool
also_at p s x = x.school == s && (not (x.subject == p.main) && has x.subject p.also)

-- a school's lanes for which the teacher is licensed: the lane of the main subject, then the others in declaration order
unfoldable pub at_school : List LaneRecord → Person → ℕ → List ℕ
at_school ls p s = keep_to (λ l. main_at p s (slice_index_or ls l no_lane)) (length ls) ++ keep_to (λ l. also_at p s (slice_index_or ls l no_lane)) (length ls)

-- the pick list that a wish list gives: school by school through the completed wish list
unfoldable pub pick_of : PostsModel → Person → List ℕ → List ℕ
pick_of m p w = gather (at_school m.lanes p) (completed m.schools p w)

module _ (T : Tables) where
  abbrev pub lane_at : ℕ → LaneRecord
  lane_at l = slice_index_or T.posts.lanes l no_lane

  abbrev pub person_at : ℕ → Person
  person_at t = slice_index_or T.people t stranger

  abbrev pub licensed_for : ℕ → ℕ → Bool
  licensed_for t l = nat_lt t (length T.people) && (nat_lt l (length T.posts.lanes) && teaches (person_at t) (lane_at l).subject)

  -- the bands of a lane, one a teacher
  abbrev pub bands_of : ℕ → List ℕ
  bands_of l = map (band_in (lane_at l).subject) T.people

-- the market, by the meaning of a standing (lane, teacher, teacher, from 1) and of a limit (lane, from 1, and group)
abbrev pub market_of : (ℕ → ℕ → ℕ → Bool) → (ℕ → Group → Bool) → Tables → Market
market_of ahead family T = record {
  teachers = length T.people;
  lanes = length T.posts.lanes;
  licensed = licensed_for T;
  before = λ l. stands_before ahead (l + 1) (bands_of T l);
  fits = λ l g. family (l + 1) g;
  pick = λ t w. pick_of T.posts (person_at T t) w;
  may_wish = λ t w. wish_ok T.posts.schools w;
  main = λ t. (person_at T t).main;
  incumbent = λ t. not (newcomer (person_at T t));
  subject = λ l. (lane_at T l).subject;
}
