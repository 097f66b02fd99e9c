-- Rounds worked by hand, from their two sheets on: what the definitions that the contracts go by give for them. Assumes nothing.
use Rattle.std.specs.Prelude.{◌≡◌, ℕ, Bool, true, false, List, [], ◌∷◌, ◌++◌, Ok, Err, codes, Result}
use Prim.Native.String.{String}
use Rattle.sheets.specs.Model.{SheetsModel}
use Rattle.sheets.specs.Read.{sheets_of, reading}
use Rattle.matching.specs.Groups.{Group}
use Rattle.book.specs.Model.{Model, opening}
use Rattle.book.specs.Result.{cuts, seats as offers}
use Rattle.round.specs.declared.answers.Refusal.{Refusal}
use Rattle.round.specs.declared.answers.Refusal.TheVariants.{NotOverAsked, OverAsked}
use Rattle.round.specs.declared.answers.Settled.{Settled}
use Rattle.round.specs.Calls.{refusal_number, any_over, wish_call, press_call, settle_call, post_call}
use Rattle.rules.specs.Views.{points_view, sizes_view, purse_view, homes_view}
use Rattle.rules.specs.Standings.{ahead_by_points}
use Rattle.rules.specs.Limits.{fits_seats, fits_purse, fits_capped}

-- ---- the sheets

-- a sheet of these lines, each ended by a byte 10
abbrev pub sheet : List String → List ℕ
sheet [] = []
sheet (l ∷ ls) = codes l ++ (10 ∷ sheet ls)

-- what a posts sheet and a staff sheet of these lines describe; no lane and no teacher where one is refused
abbrev pub described : List String → List String → SheetsModel
described posts staff = (reading (sheets_of (sheet posts) (sheet staff))).1

-- three teachers, and three lanes of size 1
abbrev pub three_teachers : SheetsModel
three_teachers = described
    ("schools=2" ∷ "subjects=2" ∷ "lanes=3"
    ∷ "lane=1,1,1" ∷ "list="
    ∷ "lane=1,2,1" ∷ "list="
    ∷ "lane=2,1,1" ∷ "list=" ∷ [])
    ("teachers=3"
    ∷ "home=1" ∷ "main=1" ∷ "also=2" ∷ "wish=2,1" ∷ "points=50" ∷ "cost=1"
    ∷ "home=2" ∷ "main=1" ∷ "also=" ∷ "wish=2" ∷ "points=70" ∷ "cost=1"
    ∷ "home=0" ∷ "main=2" ∷ "also=" ∷ "wish=1" ∷ "points=90" ∷ "cost=1" ∷ [])

-- one school, one subject and this lane
abbrev pub one_lane : String → List String
one_lane lane = "schools=1" ∷ "subjects=1" ∷ "lanes=1" ∷ lane ∷ "list=" ∷ []

-- a teacher of the subject who wishes the school, with this home and cost; the points are the same for all
abbrev pub teacher : String → String → List String
teacher home cost = home ∷ "main=1" ∷ "also=" ∷ "wish=1" ∷ "points=40" ∷ cost ∷ []

-- two newcomers, who cost 3 and 4
abbrev pub two_newcomers : List String
two_newcomers = teacher "home=0" "cost=3" ++ teacher "home=0" "cost=4"

-- a lane of size 20, and ten newcomers, who cost 3 and 4 by turns
abbrev pub ten_newcomers : SheetsModel
ten_newcomers = described (one_lane "lane=1,1,20")
    ("teachers=10" ∷ (two_newcomers ++ (two_newcomers ++ (two_newcomers ++ (two_newcomers ++ two_newcomers)))))

-- a lane of size 0, and a newcomer
abbrev pub no_room : SheetsModel
no_room = described (one_lane "lane=1,1,0") ("teachers=1" ∷ teacher "home=0" "cost=3")

-- a lane of size 3, an own incumbent of the lane and two newcomers
abbrev pub one_incumbent : SheetsModel
one_incumbent = described (one_lane "lane=1,1,3") ("teachers=3" ∷ (teacher "home=1" "cost=3" ++ two_newcomers))

-- ---- rounds, and what they show

-- the round that the sheets open, where points decide
abbrev pub opened : SheetsModel → Model
opened m = opening (ahead_by_points (points_view m)) m

-- the limits: seats; purse; and over seats at most so many newcomers
abbrev pub seats : SheetsModel → ℕ → Group → Bool
seats m = fits_seats (sizes_view m)

abbrev pub purse : SheetsModel → ℕ → Group → Bool
purse m = fits_purse (purse_view m)

abbrev pub newcomer_cap : ℕ → SheetsModel → ℕ → Group → Bool
newcomer_cap most m = fits_capped (seats m) most (homes_view m)

-- under a limit the opened round is settled, with a budget of 16000
abbrev pub settling : (SheetsModel → ℕ → Group → Bool) → SheetsModel → Result Settled Refusal × Model
settling limit m = settle_call (limit m) 16000 (opened m)

-- so many presses, and no lane is over-asked
abbrev pub calm_after : ℕ → Result Settled Refusal
calm_after n = Ok (record { presses = n; over = false })

-- the cutoffs, lane 1 first, and the offers, teacher 1 first: the number of a lane, 0 for none
abbrev pub shown : Model → List ℕ × List ℕ
shown r = (cuts r, offers r)

-- what a call answers, and the cutoffs and offers that it leaves
abbrev pub shown_by : {A : Type 0} → A × Model → A × (List ℕ × List ℕ)
shown_by call = (call.0, shown call.1)

-- teacher 2 of the three, after the settle, wishes school 1
abbrev pub wishing : Result (Unit {0}) Refusal × Model
wishing = wish_call (seats three_teachers) 2 (1 ∷ []) (settling seats three_teachers).1

-- ---- the rounds

pub record WorkedRounds : Type 0 where
  -- three teachers under seats: at first teachers 1 and 2 both have lane 3
  pub three_teachers_opened : shown (opened three_teachers) ≡ (1 ∷ 1 ∷ 1 ∷ [], 3 ∷ 3 ∷ 2 ∷ [])
  -- one press of lane 3 gives teacher 1 lane 1 in its place
  pub three_teachers_settled : shown_by (settling seats three_teachers) ≡ (calm_after 1, (1 ∷ 1 ∷ 2 ∷ [], 1 ∷ 3 ∷ 2 ∷ []))
  -- the wish of teacher 2 then sets the cutoffs back to 1, which gives teacher 1 lane 3; no lane is over-asked
  pub other_wish : shown_by wishing ≡ (Ok tt, (1 ∷ 1 ∷ 1 ∷ [], 3 ∷ 1 ∷ 2 ∷ []))
  pub other_wish_is_calm : any_over (seats three_teachers) wishing.1 ≡ false
  -- a settle with no budget only looks: a lane is over-asked
  pub settle_with_nothing : settle_call (seats three_teachers) 0 (opened three_teachers) ≡ (Ok (record { presses = 0; over = true }), opened three_teachers)
  -- nobody has lane 1, and to press it is refused with number 13
  pub press_refused : press_call (seats three_teachers) 1 (opened three_teachers) ≡ (Err NotOverAsked, opened three_teachers)
  pub press_refused_as : refusal_number NotOverAsked ≡ 13
  -- to post is refused with number 14
  pub post_refused : post_call (seats three_teachers) (opened three_teachers) ≡ (Err OverAsked, opened three_teachers)
  pub post_refused_as : refusal_number OverAsked ≡ 14
  -- ten newcomers under a purse of 20: the first five cost 17, the first six 21
  pub ten_newcomers_under_a_purse : shown_by (settling purse ten_newcomers) ≡ (calm_after 5, (6 ∷ [], 1 ∷ 1 ∷ 1 ∷ 1 ∷ 1 ∷ 0 ∷ 0 ∷ 0 ∷ 0 ∷ 0 ∷ []))
  -- no seat: nobody has the lane
  pub no_room_under_seats : shown_by (settling seats no_room) ≡ (calm_after 1, (2 ∷ [], 0 ∷ []))
  -- at most one newcomer: the incumbent does not count, and of the newcomers the later is out, though there are three seats
  pub one_incumbent_under_a_cap : shown_by (settling (newcomer_cap 1) one_incumbent) ≡ (calm_after 1, (2 ∷ [], 1 ∷ 1 ∷ 0 ∷ []))
