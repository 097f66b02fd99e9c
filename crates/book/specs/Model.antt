-- A round as the rules speak of it: what stays the same, and what changes. Lanes and teachers go by their index. Assumes nothing.
use Rattle.std.specs.Prelude.{ℕ, suc, ◌+◌, min, Bool, true, cond, if◌then◌else◌, ◌&&◌, List, [], map, length, Ok, Err, Option, Result, ◌==◌, nat_lt, slice_index, slice_index_or}
use Rattle.matching.specs.Groups.{Group}
use Rattle.matching.specs.Log.{State, opened, picks, put}
use Rattle.matching.specs.Market.{Board, board_of, clears, offer}
use Rattle.market.specs.Tables.{Tables, person, person_at, pick_of, wishes_of, tables_of, market_of}
use Rattle.sheets.specs.declared.refusals.WishRefusal.{WishRefusal}
use Rattle.sheets.specs.declared.refusals.WishRefusal.TheVariants.{NoTeacher, BadWishes}
use Rattle.sheets.specs.Model.{PostsModel, TeacherRecord, SheetsModel, blank}
use Rattle.sheets.specs.Ranges.{wish_ok}
use Rattle.sheets.specs.Tables.{with_wish}

-- what stays the same through a round: the posts, the teachers with their wishes left out, and the ranks (lane, teacher; 0 if not licensed)
pub record Fixed : Type 0 where
  pub posts : PostsModel
  pub staff : List TeacherRecord
  pub ranks : ℕ → ℕ → ℕ

abbrev pub unwished : TeacherRecord → TeacherRecord
unwished = with_wish []

-- what a pair of sheets fixes, with these ranks
abbrev pub fixed_from : SheetsModel → (ℕ → ℕ → ℕ) → Fixed
fixed_from m ranks = record { posts = m.posts; staff = map unwished m.teachers; ranks = ranks }

-- a round: what stays, and what changes
abbrev pub Model : Type 0
Model = Fixed × State

-- nothing opened yet: no teacher and no lane, and it counts as posted
abbrev pub unopened : Model
unopened = (fixed_from blank (λ _ _. 0), record { wishes = λ _. []; cuts = λ _. 1; posted = true })

abbrev pub tables_in : Fixed → Tables
tables_in F = record { posts = F.posts; people = map person F.staff }

-- the board on which the cutoffs work, under a limit with this meaning
abbrev pub board_in : (ℕ → Group → Bool) → Fixed → Board
board_in family F = record {
  teachers = length (tables_in F).people;
  lanes = length F.posts.lanes;
  rank_at = F.ranks;
  fits = λ l g. family (l + 1) g;
  pick = λ t w. pick_of F.posts (person_at (tables_in F) t) w;
  may_wish = λ t w. wish_ok F.posts.schools w;
}

-- offers do not ask the limit: any will do
abbrev pub anyone : ℕ → Group → Bool
anyone lane g = true

abbrev pub clears_in : Model → ℕ → ℕ → Bool
clears_in m = clears (board_in anyone m.0) m.1.cuts

-- the teacher's pick list by the wishes as they now are
abbrev pub pick_list_in : Model → ℕ → List ℕ
pick_list_in m t = picks (board_in anyone m.0) m.1 t

abbrev pub offer_in : Model → ℕ → Option ℕ
offer_in m = offer (board_in anyone m.0) (picks (board_in anyone m.0) m.1) m.1.cuts

-- the ranks by bands, standing and number, as the rules have them
abbrev pub ranks_by : (ℕ → ℕ → ℕ → Bool) → Tables → ℕ → ℕ → ℕ
ranks_by ahead T = (board_of (market_of ahead anyone T)).rank_at

-- a round that is opened with what the sheets describe, under a standing with this meaning
abbrev pub opening : (ℕ → ℕ → ℕ → Bool) → SheetsModel → Model
opening ahead m = (fixed_from m (ranks_by ahead (tables_of m)), opened (wishes_of m))

-- ---- how the tables are kept

-- a table of ranks has a row for each lane: the entry of teacher t in the row of lane l, 0 outside the table
abbrev pub entry_in : List (List ℕ) → ℕ → ℕ → ℕ
entry_in table l t = slice_index (slice_index_or table l []) t

-- the ranks that a table tells of so many lanes and teachers
abbrev pub rank_in : List (List ℕ) → ℕ → ℕ → ℕ → ℕ → ℕ
rank_in table lanes teachers l t = cond (nat_lt l lanes && nat_lt t teachers) (entry_in table l t) 0

-- the pick lists that the sheets' wishes give
abbrev pub picks_of : SheetsModel → List (List ℕ)
picks_of m = map (λ (t : TeacherRecord). pick_of m.posts (person t) t.wish) m.teachers

-- ---- changes

abbrev pub with_cuts : State → (ℕ → ℕ) → State
with_cuts s cut = record { wishes = s.wishes; cuts = cut; posted = s.posted }

-- the cutoff of lane l goes up by 1, if there is such a lane; 202 is the end, which is above every rank
abbrev pub lifted : Model → ℕ → Model
lifted m l = (m.0, with_cuts m.1 (λ k. cond (nat_lt l (length m.0.posts.lanes) && k == l) (min (suc (m.1.cuts k)) 202) (m.1.cuts k)))

-- another wish list for the teacher at t, and every cutoff 1; nothing where there is no such teacher or the list is not acceptable
abbrev pub wished : Model → ℕ → List ℕ → Result (Unit {0}) WishRefusal × Model
wished m t w =
    if nat_lt t (length m.0.staff) then
    if wish_ok m.0.posts.schools w then (Ok tt, (m.0, record { wishes = put m.1.wishes t w; cuts = λ _. 1; posted = m.1.posted }))
    else (Err BadWishes, m)
    else (Err NoTeacher, m)

-- the round is closed
abbrev pub closed : Model → Model
closed m = (m.0, record { wishes = m.1.wishes; cuts = m.1.cuts; posted = true })
